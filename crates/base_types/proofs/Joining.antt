-- Lists of pieces with a separator between each two.
use Rattle.std.proofs.Common.{◌≡◌, ◌<◌, ◌≤◌, ◌+◌, ◌*◌, ◌∙◌, ℕ, Bool, true, false, if◌then◌else◌, Some, None, List, [], ◌∷◌, ◌++◌, length, take, get_or, codes, decimal, ap, sym, refl, append_assoc, append-nil}
use Rattle.std.specs.List.{flat_map, filter_map, join_by, cons_option}
use Rattle.std.proofs.lemmas.List.{take_more, flat_map_more}
use Rattle.std.proofs.lemmas.List.Elements.{filter_map-append}
use Rattle.base_types.specs.Types.{Field, Oid, Row}
use Rattle.base_types.specs.Fields.{item_of}
use Rattle.base_types.specs.Names.{IsInLine}
use Rattle.base_types.proofs.InLine.{joined_in_line}

abbrev pub with_plus : ℕ → List ℕ
with_plus n = codes "+" ++ decimal n

-- so many further column numbers come after the first
pub record HasNums (first : List ℕ) (rest : List ℕ) (i : ℕ) (line : List ℕ) : Type 0 where
  pub text : line ≡ first ++ flat_map with_plus (take i rest)
  pub short : length line ≤ length first + 11 * i

-- there is an item
abbrev pub is_some_item : List (List ℕ) → Bool
is_some_item [] = false
is_some_item (item ∷ items) = true

-- the items so far, with a blank between each two
pub record HasItems (items : List (List ℕ)) (some : Bool) (text : List ℕ) : Type 0 where
  pub any : some ≡ is_some_item items
  pub joined : text ≡ join_by (λ item. item) (codes " ") items
  pub in_line : IsInLine text

pub no_items : HasItems [] false []
no_items = record { any = refl; joined = refl; in_line = refl }

some_more : (items : List (List ℕ)) (item : List ℕ) → is_some_item (items ++ item ∷ []) ≡ true
some_more [] item = refl
some_more (first ∷ items) item = refl

joined_more : (items : List (List ℕ)) (item : List ℕ) → join_by (λ x. x) (codes " ") (items ++ item ∷ [])
    ≡ (if is_some_item items then join_by (λ x. x) (codes " ") items ++ codes " " else join_by (λ x. x) (codes " ") items) ++ item
joined_more [] item = append-nil item
joined_more (first ∷ items) item = sym (flat_map_more (λ y. codes " " ++ y) first items item) ∙ sym (append_assoc (first ++ flat_map (λ y. codes " " ++ y) items) (codes " ") item)

spaced_in_line : (some : Bool) (text item : List ℕ) → IsInLine text → IsInLine item → IsInLine ((if some then text ++ codes " " else text) ++ item)
spaced_in_line true text item p q = joined_in_line (text ++ codes " ") item (joined_in_line text (codes " ") p refl) q
spaced_in_line false text item p q = joined_in_line text item p q

pub one_more_item : (items : List (List ℕ)) (some : Bool) (text item new : List ℕ) → HasItems items some text → IsInLine item
    → new ≡ (if some then text ++ codes " " else text) ++ item → HasItems (items ++ item ∷ []) true new
one_more_item items some text item new old line text_is = record {
  any = sym (some_more items item);
  joined = text_is ∙ ap (λ b. (if b then text ++ codes " " else text) ++ item) old.any
      ∙ ap (λ t. (if is_some_item items then t ++ codes " " else t) ++ item) old.joined ∙ sym (joined_more items item);
  in_line = rw text_is (spaced_in_line some text item old.in_line line);
}

-- the items of the first rows
abbrev pub items_of : Field → Oid → List Row → ℕ → List (List ℕ)
items_of field rel rows i = filter_map (item_of field rel) (take i rows)

items_more : (field : Field) (rel : Oid) (rows : List Row) (i : ℕ) (row : Row) → i < length rows → row ≡ get_or rows i row
    → items_of field rel rows (i + 1) ≡ items_of field rel rows i ++ cons_option (item_of field rel row) []
items_more field rel rows i row within is =
    ap (filter_map (item_of field rel)) (take_more rows i row within ∙ ap (λ r. take i rows ++ r ∷ []) (sym is))
    ∙ filter_map-append (item_of field rel) (take i rows) (row ∷ [])

-- a row that adds an item
pub row_adds : (field : Field) (rel : Oid) (rows : List Row) (i : ℕ) (row : Row) (some : Bool) (text item new : List ℕ) → HasItems (items_of field rel rows i) some text
    → i < length rows → row ≡ get_or rows i row → item_of field rel row ≡ Some item → IsInLine item → new ≡ (if some then text ++ codes " " else text) ++ item
    → HasItems (items_of field rel rows (i + 1)) true new
row_adds field rel rows i row some text item new old within is adds line text_is =
    let same : items_of field rel rows (i + 1) ≡ items_of field rel rows i ++ item ∷ [] = items_more field rel rows i row within is ∙ ap (λ o. items_of field rel rows i ++ cons_option o []) adds in
    rw same (one_more_item (items_of field rel rows i) some text item new old line text_is)

-- a row that adds none
pub row_passes : (field : Field) (rel : Oid) (rows : List Row) (i : ℕ) (row : Row) (some : Bool) (text : List ℕ) → HasItems (items_of field rel rows i) some text
    → i < length rows → row ≡ get_or rows i row → item_of field rel row ≡ None → HasItems (items_of field rel rows (i + 1)) some text
row_passes field rel rows i row some text old within is passes =
    let same : items_of field rel rows (i + 1) ≡ items_of field rel rows i = items_more field rel rows i row within is ∙ ap (λ o. items_of field rel rows i ++ cons_option o []) passes ∙ append-nil (items_of field rel rows i) in
    rw same old
