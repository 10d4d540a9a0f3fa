-- A script's text under a comment is read as the script.
use Rattle.std.proofs.Common.{◌≡◌, ◌+◌, ◌-◌, ◌∙◌, ◌==◌, ◌++◌, ℕ, suc, Bool, true, false, cond, Result, Ok, Err, List, [], ◌∷◌, length, codes, decimal, refl, sym, ap, subst, arith}
use Rattle.std.specs.List.{list_all, count_by}
use Rattle.std.proofs.lemmas.Bool.{cond_both}
use Rattle.std.proofs.lemmas.List.{append_assoc, length-append}
use Rattle.base_types.specs.Scenario.{Scenario}
use Rattle.event_kinds.specs.declared.entry.Entry.{Entry}
use Rattle.event_kinds.specs.declared.entry.Line.{Line}
use Rattle.script_text.specs.declared.fault.Rest.TheVariants.{Refused}
use Rattle.script_text.specs.declared.fault.ScriptCause.{ScriptCause}
use Rattle.script_text.specs.TextLines.{text_lines, bare, counts, but_last, ends_in}
use Rattle.script_text.specs.Grammar.{Draft, Reading, empty_draft, any_line, place_after, at_end, lines_from, script_of}
use Rattle.script_text.specs.ReadBack.{IsReadBack}
use Rattle.script_text.specs.Spelling.{script_spelling}
use Rattle.script_text.proofs.Clean.{is_clean, IsClean}
use Rattle.script_text.proofs.TokenLaws.{each_byte, number_piece}
use Rattle.script_text.proofs.LineLaws.{first_text_line}
use Rattle.make_script.specs.Texts.{publishes, resets, is_error, made_text}

-- ---- a comment's line says nothing

-- the front of a text stays when its last byte goes
front_stays : (x y : ℕ) (t : List ℕ) → but_last (x ∷ y ∷ t) ≡ x ∷ but_last (y ∷ t)
front_stays x y t = let e : length (x ∷ y ∷ t) - 1 ≡ suc (length (y ∷ t) - 1) = omega arith in rw e refl

once : (x y : ℕ) (t : List ℕ) → but_last (45 ∷ 45 ∷ x ∷ y ∷ t) ≡ 45 ∷ 45 ∷ x ∷ but_last (y ∷ t)
once x y t = front_stays 45 45 (x ∷ y ∷ t) ∙ ap (λ (l : List ℕ). 45 ∷ l) (front_stays 45 x (y ∷ t) ∙ ap (λ (l : List ℕ). 45 ∷ l) (front_stays x y t))

twice : (x : ℕ) (t : List ℕ) → but_last (45 ∷ 45 ∷ x ∷ t) ≡ 45 ∷ 45 ∷ but_last (x ∷ t)
twice x t = front_stays 45 45 (x ∷ t) ∙ ap (λ (l : List ℕ). 45 ∷ l) (front_stays 45 x t)

dashes : (text t : List ℕ) → text ≡ 45 ∷ 45 ∷ t → counts text ≡ false
unfolding counts
dashes text t is = rw is refl

uncounted : (x y : ℕ) (t : List ℕ) → counts (bare (45 ∷ 45 ∷ x ∷ y ∷ t)) ≡ false
unfolding bare
uncounted x y t =
    let line = 45 ∷ 45 ∷ x ∷ y ∷ t in
    let one : but_last line ≡ 45 ∷ 45 ∷ x ∷ but_last (y ∷ t) = once x y t in
    let two : but_last (but_last line) ≡ 45 ∷ 45 ∷ but_last (x ∷ but_last (y ∷ t)) = ap but_last one ∙ twice x (but_last (y ∷ t)) in
    cond_both (ends_in 10 line) (cond (ends_in 13 (but_last line)) (but_last (but_last line)) (but_last line)) line (λ l. counts l ≡ false)
    (λ _. cond_both (ends_in 13 (but_last line)) (but_last (but_last line)) (but_last line) (λ l. counts l ≡ false) (λ _. dashes (but_last (but_last line)) (but_last (x ∷ but_last (y ∷ t))) two) (λ _. dashes (but_last line) (x ∷ but_last (y ∷ t)) one))
    (λ _. dashes line (x ∷ y ∷ t) refl)

passed_over : (draft : Draft) (x y : ℕ) (t : List ℕ) → any_line draft (45 ∷ 45 ∷ x ∷ y ∷ t) ≡ Ok draft
unfolding any_line
passed_over draft x y t = rw (uncounted x y t) refl

-- ---- a script is read alike further on

-- what was read, as a result
abbrev read : Reading → Result Reading (ℕ × ScriptCause)
read reading = Ok reading

-- a reading, so much further on
abbrev moved : ℕ → Reading → Reading
moved by reading = record { script = reading.script; rest_at = reading.rest_at + by }

place_moved : (draft : Draft) (place by : ℕ) (line : List ℕ) (end : Bool) → draft.has_end ≡ end → place_after draft (place + by) line ≡ place_after draft place line + by
place_moved draft place by line true is = rw is refl
place_moved draft place by line false is = let e : place + by + length line ≡ place + length line + by = omega arith in rw (is, e) refl

end_moved : (draft : Draft) (n m place by : ℕ) (reading : Reading) (none end : Bool) → (draft.asked.backends == 0) ≡ none → draft.has_end ≡ end → at_end draft n place ≡ Ok reading → at_end draft m (place + by) ≡ Ok (moved by reading)
end_moved draft n m place by reading true end no_backends is h = absurd (cc (rw no_backends at h))
end_moved draft n m place by reading false false backends is h = absurd (cc (rw (backends, is) at h))
end_moved draft n m place by reading false true backends is h =
    let same : read (record { script = draft.asked; rest_at = place }) ≡ read reading = rw (backends, is) at h in
    let one : record { script = draft.asked; rest_at = place } ≡ reading = cc in
    rw (backends, is) (ap (λ (r : Reading). read (moved by r)) one)

step_moved : (line : List ℕ) (lines : List (List ℕ)) (draft : Draft) (n m place by : ℕ) (reading : Reading) (taken : Result Draft ScriptCause) → any_line draft line ≡ taken
    → ((next : Draft) (p : ℕ) → lines_from Refused next (n + 1) p lines ≡ Ok reading → lines_from Refused next (m + 1) (p + by) lines ≡ Ok (moved by reading))
    → lines_from Refused draft n place (line ∷ lines) ≡ Ok reading → lines_from Refused draft m (place + by) (line ∷ lines) ≡ Ok (moved by reading)
unfolding lines_from
step_moved line lines draft n m place by reading (Err cause) says others h = absurd (cc (rw says at h))
step_moved line lines draft n m place by reading (Ok next) says others h =
    let so_far : lines_from Refused next (n + 1) (place_after draft place line) lines ≡ Ok reading = rw says at h in
    rw (says, place_moved draft place by line draft.has_end refl) (others next (place_after draft place line) so_far)

read_on : (lines : List (List ℕ)) (draft : Draft) (n m place by : ℕ) (reading : Reading) → lines_from Refused draft n place lines ≡ Ok reading → lines_from Refused draft m (place + by) lines ≡ Ok (moved by reading)
unfolding lines_from
read_on [] draft n m place by reading h = end_moved draft n m place by reading (draft.asked.backends == 0) draft.has_end refl refl h
read_on (line ∷ lines) draft n m place by reading h = step_moved line lines draft n m place by reading (any_line draft line) refl (λ next p. read_on lines next (n + 1) (m + 1) p by reading) h

-- ---- both together

comment_first : (x y : ℕ) (t text : List ℕ) → lines_from Refused empty_draft 1 0 ((45 ∷ 45 ∷ x ∷ y ∷ t) ∷ text_lines text) ≡ lines_from Refused empty_draft (1 + 1) (0 + length (45 ∷ 45 ∷ x ∷ y ∷ t)) (text_lines text)
unfolding lines_from
comment_first x y t text = rw (passed_over empty_draft x y t) refl

under_comment : (script : Scenario) (x y : ℕ) (t text : List ℕ) → IsClean (45 ∷ 45 ∷ x ∷ y ∷ t) → IsReadBack script text → IsReadBack script ((45 ∷ 45 ∷ x ∷ y ∷ t) ++ 10 ∷ text)
unfolding script_of
under_comment script x y t text clean back =
    let line = (45 ∷ 45 ∷ x ∷ y ∷ t) ++ 10 ∷ [] in
    let far : length text + length line ≡ length ((45 ∷ 45 ∷ x ∷ y ∷ t) ++ 10 ∷ text) = omega (arith, length-append (45 ∷ 45 ∷ x ∷ y ∷ t) (10 ∷ text), length-append (45 ∷ 45 ∷ x ∷ y ∷ t) (10 ∷ [])) in
    ap (lines_from Refused empty_draft 1 0) (first_text_line (45 ∷ 45 ∷ x ∷ y ∷ t) text clean)
    ∙ comment_first x y (t ++ 10 ∷ []) text
    ∙ read_on (text_lines text) empty_draft 1 (1 + 1) 0 (length line) (record { script = script; rest_at = length text }) back
    ∙ ap (λ (n : ℕ). read (record { script = script; rest_at = n })) far

-- ---- the comment that counts

clean_both : (a b : List ℕ) → IsClean a → IsClean b → IsClean (a ++ b)
clean_both [] b h k = k
clean_both (x ∷ a) b h k = (h.0, clean_both a b h.1 k)

clean_text : (text : List ℕ) → list_all is_clean text ≡ true → IsClean text
clean_text text h = each_byte is_clean (λ b. is_clean b ≡ true) (λ b h. h) text h

clean_counts : (a b c d : ℕ) → IsClean (codes "-- entries " ++ decimal a ++ codes " publishes " ++ decimal b ++ codes " resets " ++ decimal c ++ codes " errors " ++ decimal d)
clean_counts a b c d =
    clean_both (codes "-- entries " ++ decimal a ++ codes " publishes " ++ decimal b ++ codes " resets " ++ decimal c ++ codes " errors ") (decimal d)
    (clean_both (codes "-- entries " ++ decimal a ++ codes " publishes " ++ decimal b ++ codes " resets " ++ decimal c) (codes " errors ")
    (clean_both (codes "-- entries " ++ decimal a ++ codes " publishes " ++ decimal b ++ codes " resets ") (decimal c)
    (clean_both (codes "-- entries " ++ decimal a ++ codes " publishes " ++ decimal b) (codes " resets ")
    (clean_both (codes "-- entries " ++ decimal a ++ codes " publishes ") (decimal b)
    (clean_both (codes "-- entries " ++ decimal a) (codes " publishes ")
    (clean_both (codes "-- entries ") (decimal a) (clean_text (codes "-- entries ") refl) (number_piece a).1)
    (clean_text (codes " publishes ") refl)) (number_piece b).1)
    (clean_text (codes " resets ") refl)) (number_piece c).1)
    (clean_text (codes " errors ") refl)) (number_piece d).1

under_counts : (script : Scenario) (a b c d : ℕ) (text : List ℕ) → IsReadBack script text
    → IsReadBack script ((codes "-- entries " ++ decimal a ++ codes " publishes " ++ decimal b ++ codes " resets " ++ decimal c ++ codes " errors " ++ decimal d) ++ 10 ∷ text)
under_counts script a b c d text back =
    under_comment script 32 101 (codes "ntries " ++ decimal a ++ codes " publishes " ++ decimal b ++ codes " resets " ++ decimal c ++ codes " errors " ++ decimal d) text (clean_counts a b c d) back

-- a script's text under the comment is read back
pub made_back : (script : Scenario) (history : List Entry) (answers : List Line) → IsReadBack script (script_spelling script) → IsReadBack script (made_text script history answers)
unfolding made_text
made_back script history answers back =
    let a = length history in
    let b = count_by publishes history in
    let c = count_by resets history in
    let d = count_by is_error answers in
    subst (IsReadBack script) (sym (append_assoc (codes "-- entries " ++ decimal a ++ codes " publishes " ++ decimal b ++ codes " resets " ++ decimal c ++ codes " errors " ++ decimal d) (10 ∷ []) (script_spelling script))) (under_counts script a b c d (script_spelling script) back)
