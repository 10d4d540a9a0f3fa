-- The messages of each item of a write are among those of the write.
use Rattle.std.proofs.Common.{◌≡◌, ◌∙◌, ◌⊎◌, inl, inr, ℕ, Bool, true, false, List, [], ◌∷◌, ◌++◌, ◌||◌, cond, refl, sym, ap, fold}
use Rattle.std.specs.List.{AllByRecursion, flat_map, list_any}
use Rattle.std.proofs.Math.Bool.{or-false}
use Rattle.std.proofs.lemmas.List.Folds.{list_any-append}
use Rattle.inval_messages.specs.declared.message.Message.{Message}
use Rattle.inval_messages.specs.Messages.{same_message}
use Rattle.inval_messages.specs.Lists.{once_more}
use Rattle.inval_messages.proofs.Covers.{same_message-true}
use Rattle.history_model.specs.Sent.{cats_by, rels_by, messages_written}
use Rattle.history_model.proofs.Every.{every-weaker, any-weaker, any-left, any-right, any-sides, any-split}
use Rattle.cacheless.specs.Types.{Entry, Item}

-- a message that is left out since the list has it adds nothing
any_more : (p : Message → Bool) (old : List Message) (m : Message) → list_any p (once_more old m) ≡ (list_any p old || p m)
any_more p old m = by_test (list_any (same_message m) old) refl
  where
    by_own : (u : Bool) → p m ≡ u → list_any (same_message m) old ≡ true → list_any p old ≡ (list_any p old || u)
    by_own true is has = let some : list_any p old ≡ true = any-weaker (same_message m) p (λ x same. ap p (sym (same_message-true m x same)) ∙ is) old has in some ∙ sym (ap (λ t. t || true) some)
    by_own false is has = sym (or-false (list_any p old))

    by_test : (t : Bool) → list_any (same_message m) old ≡ t → list_any p (cond t old (old ++ m ∷ [])) ≡ (list_any p old || p m)
    by_test true has = by_own (p m) refl has
    by_test false none = list_any-append p old (m ∷ []) ∙ ap (λ t. list_any p old || t) (or-false (p m))

or_moved : (a b c : Bool) → ((a || b) || c) ≡ (a || (b || c))
or_moved true b c = refl
or_moved false b c = refl

-- messages that are added to a list, each of them once
pub any_once : (p : Message → Bool) (old messages : List Message) → list_any p (fold once_more old messages) ≡ (list_any p old || list_any p messages)
any_once p old [] = sym (or-false (list_any p old))
any_once p old (m ∷ messages) = any_once p (once_more old m) messages ∙ ap (λ t. t || list_any p messages) (any_more p old m) ∙ or_moved (list_any p old) (p m) (list_any p messages)

-- each test that one of a change's messages passes is passed by one of these
abbrev pub Tell : List Message → List Message → Type 0
Tell messages own = (p : Message → Bool) → list_any p own ≡ true → list_any p messages ≡ true

joined_tell : (f : Item → List Message) (items : List Item) → AllByRecursion (λ item. Tell (flat_map f items) (f item)) items
joined_tell f [] = tt
joined_tell f (item ∷ items) = (
  λ p is. any-left p (f item) (flat_map f items) is,
  every-weaker (λ i. Tell (flat_map f items) (f i)) (λ i. Tell (flat_map f (item ∷ items)) (f i)) (λ i told p is. any-right p (f item) (flat_map f items) (told p is)) items (joined_tell f items),
)

-- so do the messages of a write, for each of its items
pub written_tell : (before : List Entry) (b : ℕ) (items : List Item) → AllByRecursion (λ item. Tell (messages_written before b items) (cats_by before b item ++ rels_by before b item)) items
written_tell before b items = every-weaker (λ item. Tell (flat_map both items) (both item)) (λ item. Tell (messages_written before b items) (both item))
    (λ item told p is. of p (any-sides p cats rels (any-split p (cats_by before b) (rels_by before b) items (told p is)))) items (joined_tell both items)
  where
    both : Item → List Message
    both item = cats_by before b item ++ rels_by before b item

    cats : List Message
    cats = flat_map (cats_by before b) items

    rels : List Message
    rels = flat_map (rels_by before b) items

    of : (p : Message → Bool) → (list_any p cats ≡ true) ⊎ (list_any p rels ≡ true) → list_any p (cats ++ fold once_more [] rels) ≡ true
    of p (inl is) = any-left p cats (fold once_more [] rels) is
    of p (inr is) = any-right p cats (fold once_more [] rels) (any_once p [] rels ∙ is)
