-- Sources and sinks in memory: which calls fail, what a read gives, and what a write keeps.
use Rattle.std.specs.Prelude.{ℕ, ◌+◌, ◌-◌, min, Bool, ◌||◌, ◌==◌, nat_lt, if◌then◌else◌, List, ◌++◌, length, take, drop, Option, None, Some}
use Rattle.std.specs.List.{list_any}
use Rattle.edge_io.specs.Causes.{raised}

-- the numbers of the calls that fail, counted from 1, how many calls were made, and how many failed
pub record Calls : Type 0 where
  pub failing : List ℕ
  pub made : ℕ
  pub faults : ℕ

-- whether the next call is one that fails
abbrev pub next_fails : Calls → Bool
next_fails calls = list_any (λ call. call == raised calls.made) calls.failing

-- one more call failed
abbrev pub with_fault : Calls → Calls
with_fault calls = record calls { faults = raised calls.faults }

-- the calls after one more
abbrev pub after_call : Calls → Calls
after_call calls =
    record { failing = calls.failing; made = raised calls.made; faults = if next_fails calls then raised calls.faults else calls.faults }

-- the bytes that a source has left, how many it gives at most in a call, and its calls
pub record Giving : Type 0 where
  pub left : List ℕ
  pub per_call : ℕ
  pub calls : Calls

-- how many bytes a read into a piece of so many bytes gives, where it doesn't fail
abbrev pub given : Giving → ℕ → ℕ
given source piece = min (min piece source.per_call) (length source.left)

-- the source after one more read
abbrev pub after_read : Giving → ℕ → Giving
after_read source piece =
    record { left = if next_fails source.calls then source.left else drop (given source piece) source.left; per_call = source.per_call; calls = after_call source.calls }

-- the bytes that a sink has taken, its room, how many it takes at most in a call, and its calls
pub record Taking : Type 0 where
  pub sent : List ℕ
  pub room : ℕ
  pub per_call : ℕ
  pub calls : Calls

-- how many bytes of a piece a write would take
abbrev pub wanted : Taking → List ℕ → ℕ
wanted sink piece = min (length piece) sink.per_call

-- whether what a write would take passes the room
abbrev pub overflows : Taking → List ℕ → Bool
overflows sink piece = nat_lt sink.room (length sink.sent + wanted sink piece)

-- whether a write fails: its call is one that fails, or its bytes pass the room
abbrev pub write_fails : Taking → List ℕ → Bool
write_fails sink piece = next_fails sink.calls || overflows sink piece

-- the sink after one more write
abbrev pub after_write : Taking → List ℕ → Taking
after_write sink piece =
    record {
      sent = if write_fails sink piece then sink.sent else sink.sent ++ take (wanted sink piece) piece;
      room = sink.room;
      per_call = sink.per_call;
      calls = if next_fails sink.calls then after_call sink.calls else (if overflows sink piece then with_fault (after_call sink.calls) else after_call sink.calls);
    }

-- the bytes that a steady sink keeps, its room, and whether bytes came past the room
pub record Keeping : Type 0 where
  pub kept : List ℕ
  pub room : ℕ
  pub overran : Bool

-- a steady sink tells what it took as long as all of it fits the room
abbrev pub told : Keeping → Option (List ℕ)
told sink = if sink.overran then None else Some sink.kept

-- the steady sink after it took one more piece
abbrev pub after_piece : Keeping → List ℕ → Keeping
after_piece sink piece =
    record {
      kept = sink.kept ++ take (sink.room - length sink.kept) piece;
      room = sink.room;
      overran = sink.overran || nat_lt (sink.room - length sink.kept) (length piece);
    }
