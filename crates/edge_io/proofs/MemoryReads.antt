-- What a source in memory gives, and what is left of it.
use Rattle.std.proofs.Common.{◌≡◌, ℕ, ◌+◌, ◌-◌, ◌<◌, ◌≤◌, min, Bool, false, List, [], ◌++◌, length, take, drop, if◌then◌else◌, sym, ap, ◌∙◌, subst, take-append-drop, arith}
use Rattle.std.proofs.lemmas.List.{take_rest, drop-drop, drop_all}
use Rattle.edge_io.specs.InMemory.{Calls, Giving, next_fails, after_call, given, after_read}

-- the part of some bytes from a place on
pub part_from : (bytes seen : List ℕ) (at : ℕ) → seen ≡ bytes → take (length seen - at) (drop at seen) ≡ drop at bytes
part_from bytes seen at same = take_rest seen at ∙ ap (drop at) same

-- some first bytes of what was left were given; where there was room for one, none only if none was left
pub gave : (bytes part into : List ℕ) (at room most count : ℕ) → part ≡ drop at bytes → 0 < most → length into ≡ room → count ≡ min (min room most) (length part) → take count into ≡ take count part
    → (drop at bytes ≡ take count into ++ drop (at + count) bytes) × (count ≡ 0 → 0 < length into → drop (at + count) bytes ≡ [])
gave bytes part into at room most count is some wide counts given_are =
    let rest = drop-drop count at bytes in (
      sym (take-append-drop count (drop at bytes)) ∙ ap (λ l. l ++ drop count (drop at bytes)) (ap (take count) (sym is) ∙ sym given_are) ∙ ap (λ l. take count into ++ l) rest,
      λ none more. sym rest ∙ drop_all count (drop at bytes) (subst (λ l. length l ≤ count) is (omega (arith, some, wide, counts, none, more))),
    )

-- a read that didn't fail
pub after_one : (source : Giving) (room : ℕ) (left : List ℕ) (calls : Calls) → false ≡ next_fails source.calls → left ≡ drop (given source room) source.left → calls ≡ after_call source.calls
    → record { left = left; per_call = source.per_call; calls = calls } ≡ after_read source room
after_one source room left calls works drops steps =
    let more : Calls → List ℕ → Giving = λ k l. record { left = l; per_call = source.per_call; calls = k } in
    ap (λ k. more k left) steps ∙ ap (more (after_call source.calls)) (drops ∙ ap (λ (b : Bool). if b then source.left else drop (given source room) source.left) works)
