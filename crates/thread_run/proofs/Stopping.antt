-- How the work of all ended, and what the gates' counts say of it.
use Rattle.std.proofs.Common.{◌≡◌, ◌<◌, ◌≤◌, ◌∙◌, inl, inr, ℕ, zero, suc, List, [], ◌∷◌, ◌++◌, length, get_or, refl, sym, ap, subst, arith, Result, Ok, Err, OnOk, IfErr, IsErrAnd}
use Rattle.thread_run.specs.declared.refusal.RunRefusal.{RunRefusal}
use Rattle.thread_run.specs.declared.refusal.RunRefusal.TheVariants as refusals
use Rattle.thread_run.specs.declared.seats.Seat.{Seat}
use Rattle.thread_run.specs.Seats.{AllPairs, StopsTogether, from_last, first_end, end_of}
use Rattle.thread_run.specs.Stops.{StopsBy, NoneFell, OneRose, StopTogether}
use Rattle.thread_run.proofs.Lists.{pairs_more}

-- the gates' counts, place by place
pub stops_together : {G : Type 0} (stops : G → ℕ) (xs ys : List (Seat G)) → length ys ≡ length xs → ((i : ℕ) (d : Seat G) → i < length xs → StopsBy (stops (get_or xs i d).gate) (stops (get_or ys i d).gate) (get_or ys i d).end) → StopsTogether stops xs ys
stops_together stops [] [] len each = tt
stops_together stops [] (y ∷ ys) len each = absurd (omega (arith, len))
stops_together stops (x ∷ xs) [] len each = absurd (omega (arith, len))
stops_together stops (x ∷ xs) (y ∷ ys) len each = (each zero x (omega arith), stops_together stops xs ys (omega (arith, len)) (λ k d h. each (suc k) d (omega arith)))

-- the gate of one seat, as it was lent and as it came back
pub stops_seen : {G : Type 0} (stops : G → ℕ) (lent back x y : Seat G) → lent ≡ x → back ≡ y → StopsBy (stops lent.gate) (stops back.gate) back.end → StopsBy (stops x.gate) (stops y.gate) y.end
stops_seen stops lent back x y was now seen = subst (λ s. StopsBy (stops x.gate) (stops s.gate) s.end) now (subst (λ s. StopsBy (stops s.gate) (stops back.gate) back.end) was seen)

first_assoc : (a b c : Result (Unit {0}) RunRefusal) → first_end (first_end a b) c ≡ first_end a (first_end b c)
first_assoc (Ok done) b c = refl
first_assoc (Err refusal) b c = refl

first_ok : (a : Result (Unit {0}) RunRefusal) → first_end a (Ok tt) ≡ a
first_ok (Ok done) = refl
first_ok (Err refusal) = refl

-- the end of one more comes first
pub end_more : {G : Type 0} (seats : List (Seat G)) (seat : Seat G) → end_of (seats ++ seat ∷ []) ≡ first_end seat.end (end_of seats)
end_more [] seat = sym (first_ok seat.end)
end_more (x ∷ seats) seat = ap (λ e. first_end e x.end) (end_more seats seat) ∙ first_assoc seat.end (end_of seats) x.end

-- as seats are taken
pub ends_so_far : {G : Type 0} (all seats rest : List (Seat G)) (seat : Seat G) (ended : Result (Unit {0}) RunRefusal) → seats ≡ rest ++ seat ∷ [] → first_end ended (end_of seats) ≡ end_of all → first_end (first_end ended seat.end) (end_of rest) ≡ end_of all
ends_so_far all seats rest seat ended is before = first_assoc ended seat.end (end_of rest) ∙ ap (first_end ended) (sym (end_more rest seat) ∙ ap end_of (sym is)) ∙ before

pub ends_all : {G : Type 0} (all seats : List (Seat G)) (ended : Result (Unit {0}) RunRefusal) → seats ≡ [] → first_end ended (end_of seats) ≡ end_of all → ended ≡ end_of all
ends_all all seats ended none before = sym (first_ok ended) ∙ ap (λ l. first_end ended (end_of l)) (sym none) ∙ before

-- lists of counts, one behind another
none_fell_append : (xs ys zs ws : List ℕ) → NoneFell xs ys → NoneFell zs ws → NoneFell (xs ++ zs) (ys ++ ws)
none_fell_append [] [] zs ws first second = second
none_fell_append [] (y ∷ ys) zs ws first second = absurd first
none_fell_append (x ∷ xs) [] zs ws first second = absurd first
none_fell_append (x ∷ xs) (y ∷ ys) zs ws first second = (first.0, none_fell_append xs ys zs ws first.1 second)

pub none_fell_same : (xs : List ℕ) → NoneFell xs xs
none_fell_same [] = tt
none_fell_same (x ∷ xs) = (omega arith, none_fell_same xs)

one_rose_left : (xs ys zs ws : List ℕ) → NoneFell xs ys → OneRose xs ys → OneRose (xs ++ zs) (ys ++ ws)
one_rose_left [] ys zs ws fell rose = absurd rose
one_rose_left (x ∷ xs) [] zs ws fell rose = absurd rose
one_rose_left (x ∷ xs) (y ∷ ys) zs ws fell (inl rose) = inl rose
one_rose_left (x ∷ xs) (y ∷ ys) zs ws fell (inr rose) = inr (one_rose_left xs ys zs ws fell.1 rose)

one_rose_right : (xs ys zs ws : List ℕ) → NoneFell xs ys → OneRose zs ws → OneRose (xs ++ zs) (ys ++ ws)
one_rose_right [] [] zs ws fell rose = rose
one_rose_right [] (y ∷ ys) zs ws fell rose = absurd fell
one_rose_right (x ∷ xs) [] zs ws fell rose = absurd fell
one_rose_right (x ∷ xs) (y ∷ ys) zs ws fell rose = inr (one_rose_right xs ys zs ws fell.1 rose)

-- what one gate says
one_kept : (before now : ℕ) (end : Result (Unit {0}) RunRefusal) → StopsBy before now end → before ≤ now
one_kept before now (Ok done) stops = omega (arith, stops)
one_kept before now (Err refusals.NoMemory) stops = omega (arith, stops)
one_kept before now (Err refusals.Stopped) stops = stops.0

-- both of two ends, by the first that isn't well
both_steady : (xs ys : List ℕ) (before now : ℕ) (rest end : Result (Unit {0}) RunRefusal) → OnOk rest (ys ≡ xs) → StopsBy before now end → OnOk (first_end rest end) (ys ++ now ∷ [] ≡ xs ++ before ∷ [])
both_steady xs ys before now (Err refusal) end same stops = tt
both_steady xs ys before now (Ok done) (Ok well) same stops = ap (λ l. l ++ now ∷ []) same ∙ ap (λ n. xs ++ n ∷ []) stops
both_steady xs ys before now (Ok done) (Err refusal) same stops = tt

both_cause : (xs ys : List ℕ) (before now : ℕ) (rest end : Result (Unit {0}) RunRefusal) → NoneFell xs ys → (rest ≡ Err refusals.Stopped → OneRose xs ys) → StopsBy before now end → first_end rest end ≡ Err refusals.Stopped → OneRose (xs ++ before ∷ []) (ys ++ now ∷ [])
both_cause xs ys before now (Err refusal) end fell rose stops is = one_rose_left xs ys (before ∷ []) (now ∷ []) fell (rose is)
both_cause xs ys before now (Ok done) (Ok well) fell rose stops is = absurd (cc is)
both_cause xs ys before now (Ok done) (Err refusals.NoMemory) fell rose stops is = absurd (cc is)
both_cause xs ys before now (Ok done) (Err refusals.Stopped) fell rose stops is = one_rose_right xs ys (before ∷ []) (now ∷ []) fell (inl stops.1)

-- what the gates of all seats say of how their work ended
pub stop_together : {G : Type 0} (stops : G → ℕ) (xs ys : List (Seat G)) → StopsTogether stops xs ys → StopTogether (from_last (λ s. stops s.gate) xs) (from_last (λ s. stops s.gate) ys) (end_of ys)
stop_together stops [] [] together = record { kept = tt; steady = refl; cause = λ is. absurd (cc is) }
stop_together stops [] (y ∷ ys) together = absurd together
stop_together stops (x ∷ xs) [] together = absurd together
stop_together stops (x ∷ xs) (y ∷ ys) together = let rest = stop_together stops xs ys together.1 in record {
  kept = none_fell_append (from_last (λ s. stops s.gate) xs) (from_last (λ s. stops s.gate) ys) (stops x.gate ∷ []) (stops y.gate ∷ []) rest.kept (one_kept (stops x.gate) (stops y.gate) y.end together.0, tt);
  steady = both_steady (from_last (λ s. stops s.gate) xs) (from_last (λ s. stops s.gate) ys) (stops x.gate) (stops y.gate) (end_of ys) y.end rest.steady together.0;
  cause = both_cause (from_last (λ s. stops s.gate) xs) (from_last (λ s. stops s.gate) ys) (stops x.gate) (stops y.gate) (end_of ys) y.end rest.kept rest.cause together.0;
}

-- gates that weren't lent come after those that were
pub stop_beside : (xs ys others : List ℕ) (result : Result (Unit {0}) RunRefusal) → StopTogether xs ys result → StopTogether (xs ++ others) (ys ++ others) result
stop_beside xs ys others result stop = record {
  kept = none_fell_append xs ys others others stop.kept (none_fell_same others);
  steady = by_end result stop.steady;
  cause = λ is. one_rose_left xs ys others others stop.kept (stop.cause is);
}
  where
    by_end : (result : Result (Unit {0}) RunRefusal) → OnOk result (ys ≡ xs) → OnOk result (ys ++ others ≡ xs ++ others)
    by_end (Ok done) same = ap (λ l. l ++ others) same
    by_end (Err refusal) same = tt

-- nothing was asked
pub stop_none : (xs : List ℕ) → StopTogether xs xs (Err refusals.NoMemory)
stop_none xs = record { kept = none_fell_same xs; steady = tt; cause = λ is. absurd (cc is) }

-- a pair more, where both ends are well
pub done_more : {A B : Type 0} (R : A → B → Type 0) (xs : List A) (ys : List B) (x : A) (y : B) (first end : Result (Unit {0}) RunRefusal) → OnOk first (AllPairs R xs ys) → OnOk end (R x y) → OnOk (first_end first end) (AllPairs R (xs ++ x ∷ []) (ys ++ y ∷ []))
done_more R xs ys x y (Err refusal) end pairs pair = tt
done_more R xs ys x y (Ok done) (Err refusal) pairs pair = tt
done_more R xs ys x y (Ok done) (Ok well) pairs pair = pairs_more R xs ys x y pairs pair

-- the same of lists that were put together
pub done_put : {A B : Type 0} (R : A → B → Type 0) (xs all : List A) (ys every : List B) (x : A) (y : B) (first end : Result (Unit {0}) RunRefusal) → all ≡ xs ++ x ∷ [] → every ≡ ys ++ y ∷ [] → OnOk first (AllPairs R xs ys) → OnOk end (R x y) → OnOk (first_end first end) (AllPairs R all every)
done_put R xs all ys every x y first end one two pairs pair = subst (λ l. OnOk (first_end first end) (AllPairs R l every)) (sym one) (subst (λ l. OnOk (first_end first end) (AllPairs R (xs ++ x ∷ []) l)) (sym two) (done_more R xs ys x y first end pairs pair))

-- what holds in any case holds where the end is well
pub any_end : {P : Type 0} (end : Result (Unit {0}) RunRefusal) → P → OnOk end P
any_end (Ok done) here = here
any_end (Err refusal) here = tt

-- a refusal that is handed on
pub refused_so : {T : Type 0} (before now : List ℕ) (refusal : RunRefusal) (result : Result T RunRefusal) → StopTogether before now (Err refusal) → IsErrAnd result (λ r. r ≡ refusal) → IfErr result (λ r. r ≡ refusals.Stopped → OneRose before now)
refused_so before now refusal (Ok x) stop failed = absurd failed
refused_so before now refusal (Err r) stop failed = λ stopped. stop.cause (ap Err (sym failed ∙ stopped))
