-- The text of a script is read as the script.
use Rattle.std.proofs.Common.{◌≡◌, ◌<◌, ◌≤◌, ◌+◌, ◌*◌, ℕ, Bool, true, false, not, ◌&&◌, ◌==◌, cond, Ok, List, [], ◌∷◌, ◌++◌, length, codes, decimal, refl, sym, ap, ◌∙◌, append_assoc, append-nil, length-append, arith, sum_by}
use Rattle.std.specs.List.{AllByRecursion, flat_map, list_all}
use Rattle.std.proofs.lemmas.Bool.{and_parts}
use Rattle.std.proofs.lemmas.Bool.Decides.{nat_tests}
use Rattle.std.proofs.lemmas.List.Sums.{sum_by-cons, sum_by_push}
use Rattle.base_types.specs.Names.{is_digit}
use Rattle.base_types.specs.Commands.{IsCommand}
use Rattle.base_types.specs.Scenario.{Scenario, IsScript, IsQueueSize, IsBackend, AreTurns, step_count}
use Rattle.base_types.specs.declared.command.Placed.{Placed}
use Rattle.base_types.specs.declared.command.Turns.{Turns}
use Rattle.script_text.specs.declared.fault.Rest.TheVariants.{Refused}
use Rattle.script_text.specs.TextLines.{is_blank, text_lines}
use Rattle.script_text.specs.Tokens.{tokens}
use Rattle.script_text.specs.LineForms.{none_left}
use Rattle.script_text.specs.Grammar.{Draft, empty_draft, with_ring, with_end, any_line, tokens_line, lines_from, script_of}
use Rattle.script_text.specs.Spelling.{with_pieces, command_pieces, turns_pieces, from_pieces, ring_pieces, placed_pieces, steps_pieces, line_end, script_spelling}
use Rattle.script_text.specs.ReadBack.{writes_ring, IsReadBack}
use Rattle.script_text.proofs.Clean.{is_clean, IsPiece}
use Rattle.script_text.proofs.TokenLaws.{each_byte, number_piece, decimal_digits}
use Rattle.script_text.proofs.JoinedTokens.{ending, pieces_clean}
use Rattle.script_text.proofs.LineLaws.{line_text, IsPlain, IsAfter, first_text_line, line_read, line_after_text, lines_after_text}
use Rattle.script_text.proofs.LinesBack.{not_zero, ring_back, backends_back, placed_back, steps_back, end_back}
use Rattle.script_text.proofs.CommandsBack as commands

-- ---- texts of whole lines

-- reading goes on after the text, in the draft that its lines lead to
record Leads (draft : Draft) (text : List ℕ) (next : Draft) : Type 0 where
  pub count : ℕ
  pub reads : (number place : ℕ) (rest : List ℕ) → lines_from Refused draft number place (text_lines (text ++ rest)) ≡ lines_from Refused next (number + count) (place + length text) (text_lines rest)

no_lines : (draft : Draft) → Leads draft [] draft
no_lines draft = record {
  count = 0;
  reads = λ number place rest.
      let numbers : number + 0 ≡ number = omega arith in
      let places : place + 0 ≡ place = omega arith in
      rw (numbers, places) refl;
}

one_line : (draft next : Draft) (number place : ℕ) (line : List ℕ) (lines : List (List ℕ)) → draft.has_end ≡ false → any_line draft line ≡ Ok next → lines_from Refused draft number place (line ∷ lines) ≡ lines_from Refused next (number + 1) (place + length line) lines
unfolding lines_from
one_line draft next number place line lines open_yet e = rw (e, open_yet) refl

line_leads : (draft next : Draft) (pieces : List (List ℕ)) → AllByRecursion IsPiece pieces → IsPlain pieces → draft.has_end ≡ false → tokens_line draft (flat_map tokens pieces) ≡ Ok next → Leads draft (line_text pieces) next
line_leads draft next pieces h plain open_yet e = record {
  count = 1;
  reads = λ number place rest. ap (λ (text : List ℕ). lines_from Refused draft number place (text_lines text)) (append_assoc (with_pieces [] pieces) (10 ∷ []) rest)
      ∙ ap (lines_from Refused draft number place) (first_text_line (with_pieces [] pieces) rest (pieces_clean [] pieces tt h))
      ∙ one_line draft next number place (line_text pieces) (text_lines rest) open_yet (line_read draft pieces h plain ∙ e);
}

then_leads : (first next last : Draft) (a b : List ℕ) → Leads first a next → Leads next b last → Leads first (a ++ b) last
then_leads first next last a b h k = record {
  count = h.count + k.count;
  reads = λ number place rest.
      let numbers : (number + h.count) + k.count ≡ number + (h.count + k.count) = omega arith in
      let places : (place + length a) + length b ≡ place + length (a ++ b) = omega (arith, length-append a b) in
      ap (λ (text : List ℕ). lines_from Refused first number place (text_lines text)) (append_assoc a b rest)
      ∙ h.reads number place (b ++ rest) ∙ k.reads (number + h.count) (place + length a) rest ∙ ap (λ (n : ℕ). lines_from Refused last n ((place + length a) + length b) (text_lines rest)) numbers
      ∙ ap (λ (n : ℕ). lines_from Refused last (number + (h.count + k.count)) n (text_lines rest)) places;
}

end_read : (last : Draft) (number place : ℕ) → (last.asked.backends == 0) ≡ false → last.has_end ≡ true → lines_from Refused last number place (text_lines []) ≡ Ok (record { script = last.asked; rest_at = place })
unfolding lines_from text_lines
end_read last number place some end = rw (some, end) refl

-- a text that leads to the end is read as what the draft asks for
whole : (text : List ℕ) (last : Draft) → Leads empty_draft text last → (last.asked.backends == 0) ≡ false → last.has_end ≡ true → script_of Refused text ≡ Ok (record { script = last.asked; rest_at = length text })
unfolding script_of
whole text last h some end =
    let place : 0 + length text ≡ length text = omega arith in
    ap (λ (t : List ℕ). lines_from Refused empty_draft 1 0 (text_lines t)) (sym (append-nil text)) ∙ h.reads 1 0 [] ∙ end_read last (1 + h.count) (0 + length text) some end
    ∙ ap (λ (n : ℕ). Ok (record { script = last.asked; rest_at = n })) place

-- ---- pieces of lines

digit_plain : (b : ℕ) → is_digit b ≡ true → (is_blank b ≡ false) × ((b == 45) ≡ false)
digit_plain b h = (grind (arith, nat_tests), grind (arith, nat_tests))

digits_plain : (ds : List ℕ) (pieces : List (List ℕ)) → 1 ≤ length ds → list_all is_digit ds ≡ true → IsPlain (ds ∷ pieces)
digits_plain [] pieces some h = absurd (omega arith)
digits_plain (d ∷ ds) pieces some h = digit_plain d (and_parts (is_digit d) (list_all is_digit ds) h).0

number_plain : (n : ℕ) (pieces : List (List ℕ)) → IsPlain (decimal n ∷ pieces)
number_plain n pieces = digits_plain (decimal n) pieces (number_piece n).0 (decimal_digits n)

word_piece : (b : ℕ) (bs : List ℕ) → list_all is_clean (b ∷ bs) ≡ true → IsPiece (b ∷ bs)
word_piece b bs h = (omega arith, each_byte is_clean (λ b. is_clean b ≡ true) (λ b h. h) (b ∷ bs) h)

-- ---- the queue

abbrev ring_line : ℕ → ℕ → List (List ℕ)
ring_line size from = codes "ring" ∷ decimal size ∷ from_pieces from

abbrev backends_line : ℕ → List (List ℕ)
backends_line n = codes "backends" ∷ decimal n ∷ []

abbrev placed_line : Placed → List (List ℕ)
placed_line p = decimal p.backend ∷ codes ":" ∷ command_pieces p.command

abbrev steps_line : List Turns → List (List ℕ)
steps_line turns = codes "steps" ∷ flat_map turns_pieces turns

-- what was read up to some command, or to some line of steps
abbrev up_to : Scenario → List Placed → List (List Turns) → Draft
up_to s commands steps = record { asked = record { size = s.size; from = s.from; backends = s.backends; commands = commands; steps = steps }; has_ring = writes_ring s; has_end = false }

abbrev queue_of : ℕ → ℕ → Draft
queue_of size from = record { asked = record { size = size; from = from; backends = 0; commands = []; steps = [] }; has_ring = not (none_left (ring_pieces size from)); has_end = false }

from_by : (from : ℕ) (none : Bool) → AllByRecursion IsPiece (cond none [] (codes "from" ∷ decimal from ∷ []))
from_by from true = tt
from_by from false = (word_piece 102 (codes "rom") refl, (number_piece from, tt))

ring_clean : (size from : ℕ) → AllByRecursion IsPiece (ring_line size from)
ring_clean size from = (word_piece 114 (codes "ing") refl, (number_piece size, from_by from (from == 0)))

standard : (size from : ℕ) → (size == 4096) && (from == 0) ≡ true → (size ≡ 4096) × (from ≡ 0)
standard size from h = (grind (arith, nat_tests), grind (arith, nat_tests))

-- the text is lines that lead to this draft
record IsReached (text : List ℕ) (draft : Draft) : Type 0 where
  pub leads : Leads empty_draft text draft
  pub ends : ending text ≡ 10

-- the text goes on with lines that are read
goes_on : (text whole added : List ℕ) (draft next : Draft) → IsReached text draft → IsAfter text whole added → Leads draft added next → IsReached whole next
goes_on text whole added draft next h b k = record { leads = rw b.is (then_leads empty_draft draft next text added h.leads k); ends = b.ends }

standard_queue : IsReached (with_pieces [] (ring_pieces 4096 0)) (queue_of 4096 0)
standard_queue = record { leads = no_lines empty_draft; ends = refl }

queue_by : (size from : ℕ) (plain : Bool) → ((size == 4096) && (from == 0)) ≡ plain → IsQueueSize size → from < size * 262144 → IsReached (with_pieces [] (ring_pieces size from)) (queue_of size from)
queue_by size from true e h below = let parts = standard size from e in rw (parts.0, parts.1) standard_queue
queue_by size from false e h below =
    let line = line_after_text [] (ring_line size from) refl (ring_clean size from) in
    let leads : Leads empty_draft (line_text (ring_line size from)) (with_ring empty_draft (size, from)) =
    line_leads empty_draft (with_ring empty_draft (size, from)) (ring_line size from) (ring_clean size from) (refl, refl) refl (ring_back size from h below) in
    rw e (record { leads = rw line.is leads; ends = line.ends })

-- the line of the queue, where there is one
queue_reached : (s : Scenario) → IsScript s → IsReached (with_pieces [] (ring_pieces s.size s.from)) (queue_of s.size s.from)
queue_reached s h = queue_by s.size s.from ((s.size == 4096) && (s.from == 0)) refl h.size h.from

backends_clean : (n : ℕ) → AllByRecursion IsPiece (backends_line n)
backends_clean n = (word_piece 98 (codes "ackends") refl, (number_piece n, tt))

backends_reached : (s : Scenario) (text : List ℕ) → IsScript s → IsReached text (queue_of s.size s.from) → IsReached (with_pieces text (backends_line s.backends ++ line_end ∷ [])) (up_to s [] [])
backends_reached s text h so_far =
    goes_on text _ (line_text (backends_line s.backends)) (queue_of s.size s.from) (up_to s [] []) so_far (line_after_text text (backends_line s.backends) so_far.ends (backends_clean s.backends))
    (line_leads (queue_of s.size s.from) (up_to s [] []) (backends_line s.backends) (backends_clean s.backends) (refl, refl) refl (backends_back (queue_of s.size s.from) s.backends refl h.backends))

-- ---- commands

placed_clean : (p : Placed) → IsCommand p.command → AllByRecursion IsPiece (placed_line p)
placed_clean p h = (number_piece p.backend, ((word_piece 58 [] refl), commands.pieces_clean p.command h))

commands_clean : (placed : List Placed) → AllByRecursion (λ p. IsCommand p.command) placed → AllByRecursion (λ p. AllByRecursion IsPiece (placed_line p)) placed
commands_clean [] h = tt
commands_clean (p ∷ ps) h = (placed_clean p h.0, commands_clean ps h.1)

commands_lead : (s : Scenario) (before placed : List Placed) → s.backends ≤ 64 → length before + length placed ≤ 20000 → AllByRecursion (λ p. IsBackend s.backends p.backend) placed → AllByRecursion (λ p. IsCommand p.command) placed
    → Leads (up_to s before []) (flat_map (λ p. line_text (placed_line p)) placed) (up_to s (before ++ placed) [])
commands_lead s before [] most few h k = rw (append-nil before) (no_lines (up_to s before []))
commands_lead s before (p ∷ ps) most few h k =
    let first : Leads (up_to s before []) (line_text (placed_line p)) (up_to s (before ++ p ∷ []) []) =
    line_leads (up_to s before []) (up_to s (before ++ p ∷ []) []) (placed_line p) (placed_clean p k.0) (number_plain p.backend (codes ":" ∷ command_pieces p.command)) refl
    (placed_back (up_to s before []) p.backend p.command (command_pieces p.command) most h.0 refl refl (omega arith) (commands.command_back p.command k.0)) in
    let others : Leads (up_to s (before ++ p ∷ []) []) (flat_map (λ p. line_text (placed_line p)) ps) (up_to s ((before ++ p ∷ []) ++ ps) []) =
    commands_lead s (before ++ p ∷ []) ps most (omega (arith, length-append before (p ∷ []))) h.1 k.1 in
    rw (← append_assoc before (p ∷ []) ps) (then_leads (up_to s before []) (up_to s (before ++ p ∷ []) []) (up_to s ((before ++ p ∷ []) ++ ps) []) (line_text (placed_line p)) (flat_map (λ p. line_text (placed_line p)) ps) first others)

-- ---- steps

item_clean : (b c : ℕ) (one : Bool) (rest : List (List ℕ)) → AllByRecursion IsPiece rest → AllByRecursion IsPiece (cond one (decimal b ∷ []) (decimal b ∷ codes "*" ∷ decimal c ∷ []) ++ rest)
item_clean b c true rest h = (number_piece b, h)
item_clean b c false rest h = (number_piece b, (word_piece 42 [] refl, (number_piece c, h)))

items_clean : (turns : List Turns) → AllByRecursion IsPiece (flat_map turns_pieces turns)
items_clean [] = tt
items_clean (t ∷ turns) = item_clean t.backend t.count (t.count == 1) (flat_map turns_pieces turns) (items_clean turns)

line_clean : (turns : List Turns) → AllByRecursion IsPiece (steps_line turns)
line_clean turns = (word_piece 115 (codes "teps") refl, items_clean turns)

steps_clean : (lines : List (List Turns)) → AllByRecursion (λ line. AllByRecursion IsPiece (steps_line line)) lines
steps_clean [] = tt
steps_clean (line ∷ lines) = (line_clean line, steps_clean lines)

steps_lead : (s : Scenario) (before lines : List (List Turns)) → IsBackend 64 s.backends → sum_by step_count before + sum_by step_count lines ≤ 1000000
    → AllByRecursion (λ line. (1 ≤ length line) × AllByRecursion (AreTurns s.backends) line) lines
    → Leads (up_to s s.commands before) (flat_map (λ line. line_text (steps_line line)) lines) (up_to s s.commands (before ++ lines))
steps_lead s before [] some few h = rw (append-nil before) (no_lines (up_to s s.commands before))
steps_lead s before (line ∷ lines) some few h =
    let total = sum_by-cons step_count line lines in
    let first : Leads (up_to s s.commands before) (line_text (steps_line line)) (up_to s s.commands (before ++ line ∷ [])) =
    line_leads (up_to s s.commands before) (up_to s s.commands (before ++ line ∷ [])) (steps_line line) (line_clean line) (refl, refl) refl
    (steps_back (up_to s s.commands before) line some.0 some.1 refl h.0.0 h.0.1 (omega (arith, total))) in
    let others : Leads (up_to s s.commands (before ++ line ∷ [])) (flat_map (λ line. line_text (steps_line line)) lines) (up_to s s.commands ((before ++ line ∷ []) ++ lines)) =
    steps_lead s (before ++ line ∷ []) lines some (omega (arith, total, sum_by_push step_count before line)) h.1 in
    rw (← append_assoc before (line ∷ []) lines) (then_leads (up_to s s.commands before) (up_to s s.commands (before ++ line ∷ [])) (up_to s s.commands ((before ++ line ∷ []) ++ lines)) (line_text (steps_line line)) (flat_map (λ line. line_text (steps_line line)) lines) first others)

-- ---- the script

commands_reached : (s : Scenario) (text : List ℕ) → IsScript s → IsReached text (up_to s [] []) → IsReached (with_pieces text (flat_map placed_pieces s.commands)) (up_to s s.commands [])
commands_reached s text h so_far =
    goes_on text _ (flat_map (λ p. line_text (placed_line p)) s.commands) (up_to s [] []) (up_to s s.commands []) so_far (lines_after_text placed_line s.commands text so_far.ends (commands_clean s.commands h.spelled))
    (commands_lead s [] s.commands h.backends.1 (omega (arith, h.commands)) h.placed h.spelled)

steps_reached : (s : Scenario) (text : List ℕ) → IsScript s → IsReached text (up_to s s.commands []) → IsReached (with_pieces text (flat_map steps_pieces s.steps)) (up_to s s.commands s.steps)
steps_reached s text h so_far =
    goes_on text _ (flat_map (λ line. line_text (steps_line line)) s.steps) (up_to s s.commands []) (up_to s s.commands s.steps) so_far (lines_after_text steps_line s.steps text so_far.ends (steps_clean s.steps))
    (steps_lead s [] s.steps h.backends (omega (arith, h.steps)) h.turns)

end_clean : AllByRecursion IsPiece (codes "end" ∷ [])
end_clean = (word_piece 101 (codes "nd") refl, tt)

end_reached : (s : Scenario) (text : List ℕ) → IsScript s → IsReached text (up_to s s.commands s.steps) → IsReached (with_pieces text (codes "end" ∷ line_end ∷ [])) (with_end (up_to s s.commands s.steps))
end_reached s text h so_far =
    let before = up_to s s.commands s.steps in
    goes_on text _ (line_text (codes "end" ∷ [])) before (with_end before) so_far (line_after_text text (codes "end" ∷ []) so_far.ends end_clean)
    (line_leads before (with_end before) (codes "end" ∷ []) end_clean (refl, refl) refl (end_back before (not_zero s.backends h.backends.0) refl))

-- reading what is written gives the script
pub read_back : (s : Scenario) → IsScript s → IsReadBack s (script_spelling s)
unfolding script_spelling
read_back s h =
    let all = end_reached s _ h (steps_reached s _ h (commands_reached s _ h (backends_reached s _ h (queue_reached s h)))) in
    whole _ (with_end (up_to s s.commands s.steps)) all.leads (not_zero s.backends h.backends.0) refl

-- the same of any text that is written so
pub is_read_back : (s : Scenario) (text : List ℕ) → IsScript s → text ≡ script_spelling s → IsReadBack s text
is_read_back s text h spelled = rw spelled (read_back s h)
