-- Several sends make one send, and a loop of sends makes one.
use Rattle.std.proofs.Common.{◌≡◌, ℕ, ◌+◌, ◌<◌, List, [], ◌∷◌, ◌++◌, length, take, drop, get_or, Option, None, Some, Result, Ok, Err, refl, sym, ap, ◌∙◌, subst, append_assoc, append-nil, take-append-drop}
use Rattle.std.proofs.lemmas.List.{take_more}
use Rattle.std.proofs.Math.Seq.{take-add}
use Rattle.std.proofs.lemmas.Grind.{flat_map-append}
use Rattle.std.specs.List.{flat_map}
use Rattle.edge_io.specs.Causes.{HasCause}
use Rattle.edge_io.specs.Taken.{Grows, Stays, GrowsByFront, Sends}

-- nothing was sent
pub grows_by_none : (a : Option (List ℕ)) → Grows a a []
grows_by_none None = tt
grows_by_none (Some x) = sym (append-nil x)

-- one text after another
pub grows_then : (a b c : Option (List ℕ)) (first second : List ℕ) → Grows a b first → Grows b c second → Grows a c (first ++ second)
grows_then a b None first second p q = tt
grows_then a None (Some z) first second p q = absurd q
grows_then None (Some y) (Some z) first second p q = absurd p
grows_then (Some x) (Some y) (Some z) first second p q = q ∙ ap (λ l. l ++ second) p ∙ append_assoc x first second

-- what stays has grown by a text, and then stayed
pub grows_stays : (a b c : Option (List ℕ)) (text : List ℕ) → Grows a b text → Stays b c → Grows a c text
grows_stays a b None text p q = tt
grows_stays a None (Some z) text p q = absurd q
grows_stays None (Some y) (Some z) text p q = absurd p
grows_stays (Some x) (Some y) (Some z) text p q = q ∙ p

-- a whole text is a prefix of itself
pub front_all : (a b : Option (List ℕ)) (text : List ℕ) → Grows a b text → GrowsByFront a b text
front_all a b text p = record { front = text; rest = []; parts = sym (append-nil text); grows = p }

-- a call that took nothing took a prefix
pub front_none : (a b : Option (List ℕ)) (text : List ℕ) → Stays a b → GrowsByFront a b text
front_none a b text p =
    let grows = grows_stays a a b [] (grows_by_none a) p in
    record { front = []; rest = text; parts = refl; grows = grows }

-- the first of two sends failed
pub front_first : (a b : Option (List ℕ)) (first second : List ℕ) → GrowsByFront a b first → GrowsByFront a b (first ++ second)
front_first a b first second p = record {
  front = p.front;
  rest = p.rest ++ second;
  parts = ap (λ l. l ++ second) p.parts ∙ append_assoc p.front p.rest second;
  grows = p.grows;
}

-- the second of two sends failed
pub front_second : (a b c : Option (List ℕ)) (first second : List ℕ) → Grows a b first → GrowsByFront b c second → GrowsByFront a c (first ++ second)
front_second a b c first second p q = record {
  front = first ++ q.front;
  rest = q.rest;
  parts = ap (λ l. first ++ l) q.parts ∙ sym (append_assoc first q.front q.rest);
  grows = grows_then a b c first q.front p q.grows;
}

-- a text was sent, and then the result of sending another
pub sends_then : {T E : Type 0} (a b c : Option (List ℕ)) (result : Result T E) (first second : List ℕ) → Grows a b first → Sends b c result second → Sends a c result (first ++ second)
sends_then a b c (Ok x) first second p q = grows_then a b c first second p q
sends_then a b c (Err e) first second p q = front_second a b c first second p q

-- calls that left the count as it was, and then one that answered
pub cause_then : {T E : Type 0} (before between after : ℕ) (result : Result T E) → between ≡ before → HasCause between after result → HasCause before after result
cause_then before between after result same cause = subst (λ n. HasCause n after result) same cause

-- one more turn of a loop that sends a text for each item
pub loop_more : {X : Type 0} (f : X → List ℕ) (xs : List X) (i : ℕ) (x : X) (a b c : Option (List ℕ)) → i < length xs → x ≡ get_or xs i x
    → Grows a b (flat_map f (take i xs)) → Grows b c (f x) → Grows a c (flat_map f (take (i + 1) xs))
loop_more f xs i x a b c h is p q =
    let one : flat_map f (take (i + 1) xs) ≡ flat_map f (take i xs) ++ f x =
    ap (flat_map f) (take_more xs i x h) ∙ flat_map-append f (take i xs) (get_or xs i x ∷ []) ∙ ap (λ l. flat_map f (take i xs) ++ l) (append-nil (f (get_or xs i x)) ∙ ap f (sym is)) in
    subst (Grows a c) (sym one) (grows_then a b c (flat_map f (take i xs)) (f x) p q)

-- a prefix of a prefix
pub front_longer : (a b : Option (List ℕ)) (short text rest : List ℕ) → text ≡ short ++ rest → GrowsByFront a b short → GrowsByFront a b text
front_longer a b short text rest e p = subst (GrowsByFront a b) (sym e) (front_first a b short rest p)

-- a turn of a loop that sends a text for each item failed
pub loop_front : {X : Type 0} (f : X → List ℕ) (xs : List X) (i : ℕ) (x : X) (a b c : Option (List ℕ)) → i < length xs → x ≡ get_or xs i x
    → Grows a b (flat_map f (take i xs)) → GrowsByFront b c (f x) → GrowsByFront a c (flat_map f xs)
loop_front f xs i x a b c h is p q =
    let one : flat_map f (take (i + 1) xs) ≡ flat_map f (take i xs) ++ f x =
    ap (flat_map f) (take_more xs i x h) ∙ flat_map-append f (take i xs) (get_or xs i x ∷ []) ∙ ap (λ l. flat_map f (take i xs) ++ l) (append-nil (f (get_or xs i x)) ∙ ap f (sym is)) in
    let whole : flat_map f xs ≡ flat_map f (take (i + 1) xs) ++ flat_map f (drop (i + 1) xs) =
    ap (flat_map f) (sym (take-append-drop (i + 1) xs)) ∙ flat_map-append f (take (i + 1) xs) (drop (i + 1) xs) in
    front_longer a c (flat_map f (take i xs) ++ f x) (flat_map f xs) (flat_map f (drop (i + 1) xs)) (whole ∙ ap (λ l. l ++ flat_map f (drop (i + 1) xs)) one) (front_second a b c (flat_map f (take i xs)) (f x) p q)

-- one more part of a text
pub part_more : (a b c : Option (List ℕ)) (text : List ℕ) (i n : ℕ) → Grows a b (take i text) → Grows b c (take n (drop i text)) → Grows a c (take (i + n) text)
part_more a b c text i n p q = subst (Grows a c) (sym (take-add i n text)) (grows_then a b c (take i text) (take n (drop i text)) p q)

-- the sink failed after a part of a text
pub part_front : (a b c : Option (List ℕ)) (text : List ℕ) (i : ℕ) → Grows a b (take i text) → Stays b c → GrowsByFront a c text
part_front a b c text i p q = record {
  front = take i text;
  rest = drop i text;
  parts = sym (take-append-drop i text);
  grows = grows_stays a b c (take i text) p q;
}
