-- The entries whose lines a text begins with.
use Rattle.std.specs.Prelude.{◌≡◌, ◌++◌, ◌<◌, ◌≤◌, ℕ, List, length, drop}
use Rattle.std.specs.List.{All}
use Rattle.event_kinds.specs.Entries.{IsEntry}
use Rattle.event_kinds.specs.Texts.{entry_text, entries_text, ended}
use Rattle.check_tool.specs.Types.{Entry}

-- no entry's line comes first
abbrev pub HasNoEntryFirst : List ℕ → Type 0
HasNoEntryFirst bytes = (e : Entry) (more : List ℕ) → IsEntry e → bytes ≡ ended (entry_text e) ++ more → ⊥

-- the text is the lines of these entries, and then something in which no entry's line comes first
pub record Leads (text : List ℕ) (entries : List Entry) (rest : List ℕ) : Type 0 where
  pub text_is : text ≡ entries_text entries ++ rest
  pub entries_are : All IsEntry entries
  pub ends : HasNoEntryFirst rest

-- this entry's line comes first, and has so many bytes
pub record HasEntryFirst (bytes : List ℕ) (e : Entry) (size : ℕ) : Type 0 where
  pub entry_is : IsEntry e
  pub text_is : bytes ≡ ended (entry_text e) ++ drop size bytes
  pub some : 0 < size
  pub within : size ≤ length bytes
