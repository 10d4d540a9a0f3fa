-- What is read is spelled so, and what is spelled so is read, for each way in which readers are put together.
use Rattle.std.proofs.Common.{◌≡◌, ℕ, zero, suc, ◌+◌, ◌≤◌, Bool, true, false, not, cond, List, [], ◌∷◌, ◌++◌, length, take, drop, Option, Some, None, refl, sym, ap, subst, ◌∙◌, append_assoc, arith, ◌&&◌}
use Rattle.std.specs.List.{prefix_len, list_all, AllByRecursion, flat_map}
use Rattle.std.specs.Str.{bytes_eq}
use Rattle.std.proofs.lemmas.Slice.Eq.{bytes_eq-Decides}
use Rattle.std.proofs.lemmas.List.{take-append-drop}
use Rattle.std.proofs.lemmas.Option.{some_pair_parts}
use Rattle.std.proofs.Math.Seq.{take-append_seam}
use Rattle.event_kinds.specs.Readers.{◌>>=◌, Reader, lit_at, field_at, pair_at, then_at, as_at, check_at, none_at, or_at, choose_at, more_at}

-- a step that gave something
pub bind_some : {A B P : Type 0} (r : Option A) (f : A → Option B) (y : B) → (r >>= f) ≡ Some y → ((x : A) → r ≡ Some x → f x ≡ Some y → P) → P
bind_some None f y e k = absurd cc
bind_some (Some x) f y e k = k x refl e

-- a reader that gave something
pub read_some : {A B P : Type 0} (r : Option (A × List ℕ)) (f : A × List ℕ → Option B) (y : B) → (r >>= f) ≡ Some y
    → ((a : A) (rest : List ℕ) → r ≡ Some (a, rest) → f (a, rest) ≡ Some y → P) → P
read_some None f y e k = absurd cc
read_some (Some (a, rest)) f y e k = k a rest refl e

-- a test that was passed
pub passed : {A : Type 0} (b : Bool) (x y : A) → cond b (Some x) None ≡ Some y → (b ≡ true) × (x ≡ y)
passed false x y e = absurd cc
passed true x y e = (refl, cc)

-- a text is what a reader gives and the bytes after it, and the other way round where those may follow
pub record Spells {X : Type 0} (text : X → List ℕ) (Is : X → Type 0) (Ends : List ℕ → Type 0) (read : Reader X) : Type 0 where
  pub takes : (bytes : List ℕ) (x : X) (rest : List ℕ) → read bytes ≡ Some (x, rest) → (bytes ≡ text x ++ rest) × Is x
  pub again : (x : X) (rest : List ℕ) → Is x → Ends rest → read (text x ++ rest) ≡ Some (x, rest)

-- anything may follow
abbrev pub Any : List ℕ → Type 0
Any rest = Unit {0}

bytes_same : (a b : List ℕ) → bytes_eq a b ≡ true → a ≡ b
bytes_same a b e = (bytes_eq-Decides a b).0 e

bytes_eq-refl : (a : List ℕ) → bytes_eq a a ≡ true
bytes_eq-refl a = (bytes_eq-Decides a a).1 refl

pub lit_takes : (text bytes rest : List ℕ) → lit_at text bytes ≡ Some rest → bytes ≡ text ++ rest
unfolding lit_at
lit_takes text bytes rest e =
    let p = passed (bytes_eq text (take (length text) bytes)) (drop (length text) bytes) rest e in
    sym (take-append-drop (length text) bytes) ∙ ap (λ t. t ++ drop (length text) bytes) (sym (bytes_same text (take (length text) bytes) p.0)) ∙ ap (λ t. text ++ t) p.1

pub drop-append_seam : (xs ys : List ℕ) → drop (length xs) (xs ++ ys) ≡ ys
drop-append_seam [] ys = refl
drop-append_seam (x ∷ xs) ys = drop-append_seam xs ys

pub lit_again : (text rest : List ℕ) → lit_at text (text ++ rest) ≡ Some rest
unfolding lit_at
lit_again text rest =
    rw (take-append_seam text rest, bytes_eq-refl text, drop-append_seam text rest) refl

pub then_spells : {X : Type 0} (text : X → List ℕ) (Is : X → Type 0) (Ends : List ℕ → Type 0) (f : Reader X) (lit : List ℕ)
    → Spells text Is Ends f → ((rest : List ℕ) → Ends (lit ++ rest)) → Spells (λ x. text x ++ lit) Is Any (then_at f lit)
then_spells text Is Ends f lit s ends = record {
  takes = λ bytes x rest e. read_some (f bytes) _ (x, rest) e (λ a r read e'.
      bind_some (lit_at lit r) _ (x, rest) e' (λ rest' found same.
      let parts = some_pair_parts a x rest' rest same in
      let t = s.takes bytes a r read in
      rw (← parts.0, ← parts.1) (t.0 ∙ ap (λ l. text a ++ l) (lit_takes lit r rest' found) ∙ sym (append_assoc (text a) lit rest'), t.1)));
  again = λ x rest is any. rw (append_assoc (text x) lit rest, s.again x (lit ++ rest) is (ends rest), lit_again lit rest) refl;
}

pub pair_spells : {X Y : Type 0} (text : X → List ℕ) (Is : X → Type 0) (Ends : List ℕ → Type 0) (f : Reader X)
    (text' : Y → List ℕ) (Is' : Y → Type 0) (Ends' : List ℕ → Type 0) (g : Reader Y)
    → Spells text Is Ends f → Spells text' Is' Ends' g → ((y : Y) (rest : List ℕ) → Is' y → Ends' rest → Ends (text' y ++ rest))
    → Spells (λ (p : X × Y). text p.0 ++ text' p.1) (λ (p : X × Y). Is p.0 × Is' p.1) Ends' (pair_at f g)
pair_spells text Is Ends f text' Is' Ends' g s s' ends = record {
  takes = λ bytes x rest e. read_some (f bytes) _ (x, rest) e (λ a r read e'.
      read_some (g r) _ (x, rest) e' (λ b rest' read' same.
      let parts = some_pair_parts (a, b) x rest' rest same in
      let t = s.takes bytes a r read in
      let t' = s'.takes r b rest' read' in
      rw (← parts.0, ← parts.1) (t.0 ∙ ap (λ l. text a ++ l) t'.0 ∙ sym (append_assoc (text a) (text' b) rest'), (t.1, t'.1))));
  again = λ x rest is end.
      rw (append_assoc (text x.0) (text' x.1) rest, s.again x.0 (text' x.1 ++ rest) is.0 (ends x.1 rest is.1 end), s'.again x.1 rest is.1 end) refl;
}

pub check_spells : {X : Type 0} (text : X → List ℕ) (Is : X → Type 0) (Ends : List ℕ → Type 0) (f : Reader X) (p : X → Bool)
    → Spells text Is Ends f → Spells text (λ x. Is x × (p x ≡ true)) Ends (check_at p f)
check_spells {X = X} text Is Ends f p s = record {
  takes = λ bytes x rest e. read_some (f bytes) _ (x, rest) e (λ a r read e'.
      let test = passed (p a) (a, r) (x, rest) e' in
      let t = s.takes bytes a r read in
      subst (λ (v : X × List ℕ). (bytes ≡ text v.0 ++ v.1) × (Is v.0 × (p v.0 ≡ true))) test.1 (t.0, (t.1, test.0)));
  again = λ x rest is end. rw (s.again x rest is.0 end, is.1) refl;
}

-- a fixed text and what comes after it is read as a value of a wider type
pub record Behind {X : Type 0} (lit : List ℕ) (text : X → List ℕ) (Is : X → Type 0) (read : Reader X) : Type 0 where
  pub takes : (bytes : List ℕ) (x : X) (rest : List ℕ) → read bytes ≡ Some (x, rest) → (lit ++ bytes ≡ text x ++ rest) × Is x

pub behind : {X Y : Type 0} (text : X → List ℕ) (Is : X → Type 0) (Ends : List ℕ → Type 0) (f : Reader X) (lit : List ℕ) (make : X → Y) (text' : Y → List ℕ) (Is' : Y → Type 0)
    → Spells text Is Ends f → ((x : X) → Is x → text' (make x) ≡ lit ++ text x) → ((x : X) → Is x → Is' (make x)) → Behind lit text' Is' (as_at make f)
behind text Is Ends f lit make text' Is' s spelled well = record {
  takes = λ bytes y rest e. read_some (f bytes) _ (y, rest) e (λ a r read same.
      let parts = some_pair_parts (make a) y r rest same in
      let t = s.takes bytes a r read in
      rw (← parts.0, ← parts.1) (ap (λ l. lit ++ l) t.0 ∙ sym (append_assoc lit (text a) r) ∙ ap (λ l. l ++ r) (sym (spelled a t.1)), well a t.1));
}

-- what is spelled after the fixed text is read again
pub as_again : {X Y : Type 0} (text : X → List ℕ) (Is : X → Type 0) (Ends : List ℕ → Type 0) (f : Reader X) (make : X → Y) (x : X) (rest : List ℕ)
    → Spells text Is Ends f → Is x → Ends rest → as_at make f (text x ++ rest) ≡ Some (make x, rest)
as_again text Is Ends f make x rest s is end = rw (s.again x rest is end) refl

or_case : {X P : Type 0} (at : Option (List ℕ)) (f g : Reader X) (bytes : List ℕ) (y : X × List ℕ) → elim at [ None ↦ g bytes | Some rest ↦ f rest ] ≡ Some y
    → ((rest : List ℕ) → at ≡ Some rest → f rest ≡ Some y → P) → (g bytes ≡ Some y → P) → P
or_case None f g bytes y e k l = l e
or_case (Some rest) f g bytes y e k l = k rest refl e

pub or_behind : {X : Type 0} (text : X → List ℕ) (Is : X → Type 0) (lit : List ℕ) (f g : Reader X) → Behind lit text Is f → Behind [] text Is g → Behind [] text Is (or_at lit f g)
or_behind text Is lit f g p q = record {
  takes = λ bytes x rest e. or_case (lit_at lit bytes) f g bytes (x, rest) e
      (λ after found read. let t = p.takes after x rest read in (lit_takes lit bytes after found ∙ t.0, t.1))
      (λ read. q.takes bytes x rest read);
}

-- the same after a fixed text
pub or_within : {X : Type 0} (text : X → List ℕ) (Is : X → Type 0) (outer lit : List ℕ) (f g : Reader X) → Behind (outer ++ lit) text Is f → Behind outer text Is g → Behind outer text Is (or_at lit f g)
or_within text Is outer lit f g p q = record {
  takes = λ bytes x rest e. or_case (lit_at lit bytes) f g bytes (x, rest) e
      (λ after found read. let t = p.takes after x rest read in (ap (λ l. outer ++ l) (lit_takes lit bytes after found) ∙ sym (append_assoc outer lit after) ∙ t.0, t.1))
      (λ read. q.takes bytes x rest read);
}

-- the bytes begin with the fixed text
pub or_first : {X : Type 0} (lit bytes rest : List ℕ) (f g : Reader X) (y : Option (X × List ℕ)) → lit_at lit bytes ≡ Some rest → f rest ≡ y → or_at lit f g bytes ≡ y
or_first lit bytes rest f g y found h = rw (found, or_at) h

-- they don't
pub or_other : {X : Type 0} (lit bytes : List ℕ) (f g : Reader X) (y : Option (X × List ℕ)) → lit_at lit bytes ≡ None → g bytes ≡ y → or_at lit f g bytes ≡ y
or_other lit bytes f g y missing h = rw (missing, or_at) h

-- each way to go on reads after its own text
abbrev pub AllBehind : {X : Type 0} → (X → List ℕ) → (X → Type 0) → List (List ℕ × Reader X) → Type 0
AllBehind text Is [] = Unit {0}
AllBehind text Is (c ∷ cs) = Behind c.0 text Is c.1 × AllBehind text Is cs

pub choose_behind : {X : Type 0} (text : X → List ℕ) (Is : X → Type 0) (cs : List (List ℕ × Reader X)) → AllBehind text Is cs → Behind [] text Is (choose_at cs)
choose_behind text Is [] all = record { takes = λ bytes x rest e. absurd cc }
choose_behind text Is (c ∷ cs) all = or_behind text Is c.0 c.1 (choose_at cs) all.0 (choose_behind text Is cs all.1)

-- the bytes that follow begin with none that passes the test
abbrev pub stops : (ℕ → Bool) → List ℕ → Bool
stops p [] = true
stops p (byte ∷ bytes) = not (p byte)

pub both : (a b : Bool) → a && b ≡ true → (a ≡ true) × (b ≡ true)
both true b e = (refl, e)
both false b e = absurd cc

stopped : (b : Bool) (n : ℕ) → not b ≡ true → cond b n 0 ≡ 0
stopped true n e = absurd cc
stopped false n e = refl

more_passed : (b : Bool) (n m : ℕ) → b ≡ true → n ≡ m → cond b (1 + n) 0 ≡ 1 + m
more_passed b n m e h = rw (e, h) refl

pub prefix_seam : (p : ℕ → Bool) (xs rest : List ℕ) → list_all p xs ≡ true → stops p rest ≡ true → prefix_len p (xs ++ rest) ≡ length xs
prefix_seam p [] [] e h = refl
prefix_seam p [] (byte ∷ bytes) e h = stopped (p byte) _ h
prefix_seam p (x ∷ xs) rest e h =
    let parts = both (p x) (list_all p xs) e in
    more_passed (p x) (prefix_len p (xs ++ rest)) (length xs) parts.0 (prefix_seam p xs rest parts.1 h) ∙ omega arith

-- a value's bytes, and back
pub record Values {X : Type 0} (p : ℕ → Bool) (text : X → List ℕ) (Is : X → Type 0) (of : List ℕ → Option X) : Type 0 where
  pub takes : (bytes : List ℕ) (x : X) → of bytes ≡ Some x → (bytes ≡ text x) × Is x
  pub again : (x : X) → Is x → of (text x) ≡ Some x
  pub pass : (x : X) → Is x → list_all p (text x) ≡ true

pub field_spells : {X : Type 0} (p : ℕ → Bool) (text : X → List ℕ) (Is : X → Type 0) (of : List ℕ → Option X)
    → Values p text Is of → Spells text Is (λ rest. stops p rest ≡ true) (field_at p of)
field_spells p text Is of v = record {
  takes = λ bytes x rest e. bind_some (of (take (prefix_len p bytes) bytes)) _ (x, rest) e (λ a made same.
      let parts = some_pair_parts a x (drop (prefix_len p bytes) bytes) rest same in
      let t = v.takes (take (prefix_len p bytes) bytes) a made in
      rw (← parts.0, ← parts.1) (sym (take-append-drop (prefix_len p bytes) bytes) ∙ ap (λ l. l ++ drop (prefix_len p bytes) bytes) t.0, t.1));
  again = λ x rest is end.
      rw (prefix_seam p (text x) rest (v.pass x is) end, take-append_seam (text x) rest, v.again x is, drop-append_seam (text x) rest) refl;
}

-- ---- more values, a fixed text before each

-- the text of more values
abbrev pub more_text : {X : Type 0} → List ℕ → (X → List ℕ) → List X → List ℕ
more_text lit text xs = flat_map (λ x. lit ++ text x) xs

-- so many values at most
abbrev pub AreUpTo : {X : Type 0} → (X → Type 0) → ℕ → List X → Type 0
AreUpTo Is most xs = (length xs ≤ most) × AllByRecursion Is xs

-- a part that others of its kind may follow, and what may follow the last
pub record Repeats {X : Type 0} (lit : List ℕ) (text : X → List ℕ) (Is : X → Type 0) (Ends LastEnds : List ℕ → Type 0) (f : Reader X) : Type 0 where
  pub one : Spells text Is Ends f
  pub others : (xs : List X) (rest : List ℕ) → LastEnds rest → Ends (more_text lit text xs ++ rest)
  pub last : (rest : List ℕ) → LastEnds rest → lit_at lit rest ≡ None

abbrev pub cons_of : {X : Type 0} → X × List X → List X
cons_of p = p.0 ∷ p.1

abbrev one_more : {X : Type 0} → List ℕ → Reader X → ℕ → Reader (List X)
one_more lit f most = as_at cons_of (pair_at f (more_at lit f most))

-- one value and then more
pub first_and_more : {X : Type 0} (lit : List ℕ) (text : X → List ℕ) (Is : X → Type 0) (Ends LastEnds : List ℕ → Type 0) (f : Reader X) (AreMore : List X → Type 0) (more : Reader (List X))
    → Repeats lit text Is Ends LastEnds f → Spells (more_text lit text) AreMore LastEnds more
    → Spells (λ (p : X × List X). text p.0 ++ more_text lit text p.1) (λ (p : X × List X). Is p.0 × AreMore p.1) LastEnds (pair_at f more)
first_and_more lit text Is Ends LastEnds f AreMore more r s =
    pair_spells text Is Ends f (more_text lit text) AreMore LastEnds more r.one s (λ xs rest are end. r.others xs rest end)

none_left : {X : Type 0} (Is : X → Type 0) (xs : List X) → AreUpTo Is 0 xs → [] ≡ xs
none_left Is [] are = refl
none_left Is (x ∷ xs) are = absurd (omega (arith, are.0))

none_behind : {X : Type 0} (lit : List ℕ) (text : X → List ℕ) (Is : X → Type 0) (most : ℕ) → Behind [] (more_text lit text) (AreUpTo Is most) (none_at [])
none_behind {X = X} lit text Is most = record {
  takes = λ bytes x rest e. let parts = some_pair_parts {A = List X} [] x bytes rest e in rw (← parts.0, ← parts.1) (refl, (omega arith, tt));
}

more_takes : {X : Type 0} (lit : List ℕ) (text : X → List ℕ) (Is : X → Type 0) (Ends LastEnds : List ℕ → Type 0) (f : Reader X) (most : ℕ)
    → Repeats lit text Is Ends LastEnds f → Spells (more_text lit text) (AreUpTo Is most) LastEnds (more_at lit f most) → Behind [] (more_text lit text) (AreUpTo Is (suc most)) (more_at lit f (suc most))
unfolding more_at
more_takes {X = X} lit text Is Ends LastEnds f most r s = or_behind (more_text lit text) (AreUpTo Is (suc most)) lit (one_more lit f most) (none_at [])
    (behind (λ (p : X × List X). text p.0 ++ more_text lit text p.1) (λ (p : X × List X). Is p.0 × AreUpTo Is most p.1) LastEnds (pair_at f (more_at lit f most)) lit cons_of (more_text lit text) (AreUpTo Is (suc most))
    (first_and_more lit text Is Ends LastEnds f (AreUpTo Is most) (more_at lit f most) r s) (λ p h. append_assoc lit (text p.0) (more_text lit text p.1)) (λ p h. (omega (arith, h.1.0), (h.0, h.1.1))))
    (none_behind lit text Is (suc most))

more_again : {X : Type 0} (lit : List ℕ) (text : X → List ℕ) (Is : X → Type 0) (Ends LastEnds : List ℕ → Type 0) (f : Reader X) (most : ℕ)
    → Repeats lit text Is Ends LastEnds f → Spells (more_text lit text) (AreUpTo Is most) LastEnds (more_at lit f most)
    → (xs : List X) (rest : List ℕ) → AreUpTo Is (suc most) xs → LastEnds rest → more_at lit f (suc most) (more_text lit text xs ++ rest) ≡ Some (xs, rest)
unfolding more_at
more_again lit text Is Ends LastEnds f most r s [] rest are end = or_other lit rest (one_more lit f most) (none_at []) _ (r.last rest end) refl
more_again {X = X} lit text Is Ends LastEnds f most r s (x ∷ xs) rest are end =
    let fewer : length xs ≤ most = omega (arith, are.0) in
    let tail : List ℕ = text x ++ (more_text lit text xs ++ rest) in
    ap (more_at lit f (suc most)) (append_assoc (lit ++ text x) (more_text lit text xs) rest ∙ append_assoc lit (text x) (more_text lit text xs ++ rest))
    ∙ or_first lit (lit ++ tail) tail (one_more lit f most) (none_at []) _ (lit_again lit tail)
    (ap (one_more lit f most) (sym (append_assoc (text x) (more_text lit text xs) rest))
    ∙ as_again (λ (p : X × List X). text p.0 ++ more_text lit text p.1) (λ (p : X × List X). Is p.0 × AreUpTo Is most p.1) LastEnds (pair_at f (more_at lit f most)) cons_of (x, xs) rest
    (first_and_more lit text Is Ends LastEnds f (AreUpTo Is most) (more_at lit f most) r s) (are.1.0, (fewer, are.1.1)) end)

pub more_spells : {X : Type 0} (lit : List ℕ) (text : X → List ℕ) (Is : X → Type 0) (Ends LastEnds : List ℕ → Type 0) (f : Reader X) (most : ℕ)
    → Repeats lit text Is Ends LastEnds f → Spells (more_text lit text) (AreUpTo Is most) LastEnds (more_at lit f most)
unfolding more_at
more_spells {X = X} lit text Is Ends LastEnds f zero r = record {
  takes = λ bytes xs rest e. let parts = some_pair_parts {A = List X} [] xs bytes rest e in rw (← parts.0, ← parts.1) (refl, (omega arith, tt));
  again = λ xs rest are end. rw (← none_left Is xs are) refl;
}
more_spells lit text Is Ends LastEnds f (suc most) r = record {
  takes = (more_takes lit text Is Ends LastEnds f most r (more_spells lit text Is Ends LastEnds f most r)).takes;
  again = more_again lit text Is Ends LastEnds f most r (more_spells lit text Is Ends LastEnds f most r);
}

-- ---- parts

-- a part of a line with its text, which values have it, and what may follow
pub record Part (X : Type 0) : Type 1 where
  pub text : X → List ℕ
  pub Is : X → Type 0
  pub Ends : List ℕ → Type 0
  pub read : Reader X
  pub spells : Spells text Is Ends read

-- a part with a fixed text after it
abbrev pub then_part : {X : Type 0} (p : Part X) (lit : List ℕ) → ((rest : List ℕ) → p.Ends (lit ++ rest)) → Part X
then_part p lit ends = record {
  text = λ x. p.text x ++ lit;
  Is = p.Is;
  Ends = Any;
  read = then_at p.read lit;
  spells = then_spells p.text p.Is p.Ends p.read lit p.spells ends;
}

-- one part after the other
abbrev pub pair_part : {X Y : Type 0} (p : Part X) (q : Part Y) → ((y : Y) (rest : List ℕ) → q.Is y → q.Ends rest → p.Ends (q.text y ++ rest)) → Part (X × Y)
pair_part {X = X} {Y = Y} p q ends = record {
  text = λ (v : X × Y). p.text v.0 ++ q.text v.1;
  Is = λ (v : X × Y). p.Is v.0 × q.Is v.1;
  Ends = q.Ends;
  read = pair_at p.read q.read;
  spells = pair_spells p.text p.Is p.Ends p.read q.text q.Is q.Ends q.read p.spells q.spells ends;
}

pub behind_part : {X Y : Type 0} (p : Part X) (lit : List ℕ) (make : X → Y) (text : Y → List ℕ) (Is : Y → Type 0)
    → ((x : X) → p.Is x → text (make x) ≡ lit ++ p.text x) → ((x : X) → p.Is x → Is (make x)) → Behind lit text Is (as_at make p.read)
behind_part p lit make text Is spelled well = behind p.text p.Is p.Ends p.read lit make text Is p.spells spelled well

pub again_part : {X Y : Type 0} (p : Part X) (make : X → Y) (x : X) (rest : List ℕ) → p.Is x → p.Ends rest → as_at make p.read (p.text x ++ rest) ≡ Some (make x, rest)
again_part p make x rest is end = as_again p.text p.Is p.Ends p.read make x rest p.spells is end
