use Rattle.std.proofs.Common.{◌≡◌, ◌<◌, ◌+◌, ℕ, List, [], ◌∷◌, ◌++◌, length, take, map, get_or, ap, sym, ◌∙◌}
use Rattle.std.proofs.lemmas.List.{take_more, map-append}
use Rattle.script_text.specs.TextLines.{small}
use Rattle.script_text.proofs.text_lines.in_small_letters.Goals as goal

one_more : (line folded : List ℕ) (i byte : ℕ) → i < length line → folded ≡ map small (take i line) → byte ≡ small (get_or line i 0) → folded ++ byte ∷ [] ≡ map small (take (i + 1) line)
one_more line folded i byte lt so_far is =
    ap (λ front. front ++ byte ∷ []) so_far ∙ ap (λ b. map small (take i line) ++ b ∷ []) is
    ∙ sym (ap (map small) (take_more line i 0 lt) ∙ map-append small (take i line) (get_or line i 0 ∷ []))

pub loop-byte-preserved : goal.loop-byte-preserved
loop-byte-preserved c = c.in_ok-push.ensures.items ∙ one_more c.args.line.now c.loop-byte.folded.items c.loop-byte.byte-index _ c.loop-byte-test.true c.loop-byte.invariant c.small.ensures
