-- The pieces of a list's items, as a loop adds them item by item.
use Rattle.std.proofs.Common.{◌≡◌, ◌<◌, ◌+◌, ℕ, List, [], ◌∷◌, ◌++◌, length, take, get_or, flat_map, ap, sym, ◌∙◌}
use Rattle.std.proofs.lemmas.List.{take_more, append-nil}
use Rattle.std.proofs.lemmas.List.Sums.{fold-append}
use Rattle.std.proofs.lemmas.Grind.{flat_map-append}
use Rattle.script_text.specs.Spelling.{with_piece, with_pieces}

-- one item more
pub pieces_more : {X : Type 0} (pieces : X → List (List ℕ)) (xs : List X) (i : ℕ) (x : X) (old before after : List ℕ) → i < length xs → x ≡ get_or xs i x → before ≡ with_pieces old (flat_map pieces (take i xs)) → after ≡ with_pieces before (pieces x) → after ≡ with_pieces old (flat_map pieces (take (i + 1) xs))
pieces_more pieces xs i x old before after lt is so_far added =
    let split : flat_map pieces (take (i + 1) xs) ≡ flat_map pieces (take i xs) ++ pieces x = ap (flat_map pieces) (take_more xs i x lt) ∙ flat_map-append pieces (take i xs) (get_or xs i x ∷ []) ∙ ap (λ y. flat_map pieces (take i xs) ++ (pieces y ++ [])) (sym is) ∙ ap (λ p. flat_map pieces (take i xs) ++ p) (append-nil (pieces x)) in
    added ∙ ap (λ text. with_pieces text (pieces x)) so_far ∙ sym (fold-append with_piece old (flat_map pieces (take i xs)) (pieces x)) ∙ ap (with_pieces old) (sym split)
