-- Laws of what holds of each entry and of folds along a history: one more entry, and a prefix.
use Rattle.std.proofs.Common.{◌≡◌, ◌∙◌, ℕ, true, false, List, [], ◌∷◌, ◌++◌, ◌==◌, if◌then◌else◌, refl, sym, ap, append_assoc, append-nil, subst, rules}
use Rattle.event_kinds.specs.declared.entry.Entry.{Entry}
use Rattle.history_model.specs.Prefixes.{EachFrom, EachEntry, along_from, along, along_own}

EachFrom-more : (P : List Entry → Entry → Type 0) (before history : List Entry) (e : Entry) → EachFrom P before history → P (before ++ history) e → EachFrom P before (history ++ e ∷ [])
EachFrom-more P before [] e held here = search rules
EachFrom-more P before (x ∷ xs) e held here = (held.0, EachFrom-more P (before ++ x ∷ []) xs e held.1 (rw append_assoc here))

-- one more entry, of which P holds, after those before it
pub EachEntry-more : (P : List Entry → Entry → Type 0) (history : List Entry) (e : Entry) → EachEntry P history → P history e → EachEntry P (history ++ e ∷ [])
EachEntry-more P history e held here = EachFrom-more P [] history e held here

EachFrom-weaker : (P Q : List Entry → Entry → Type 0) → ((before : List Entry) (e : Entry) → P before e → Q before e) → (before history : List Entry) → EachFrom P before history → EachFrom Q before history
EachFrom-weaker P Q weaker before [] each = tt
EachFrom-weaker P Q weaker before (e ∷ rest) each = (weaker before e each.0, EachFrom-weaker P Q weaker (before ++ e ∷ []) rest each.1)

-- what holds of each entry, so does what follows from it
pub EachEntry-weaker : (P Q : List Entry → Entry → Type 0) → ((before : List Entry) (e : Entry) → P before e → Q before e) → (history : List Entry) → EachEntry P history → EachEntry Q history
EachEntry-weaker P Q weaker history each = EachFrom-weaker P Q weaker [] history each

EachFrom-prefix : (P : List Entry → Entry → Type 0) (before prefix rest : List Entry) → EachFrom P before (prefix ++ rest) → EachFrom P before prefix
EachFrom-prefix P before [] rest each = tt
EachFrom-prefix P before (e ∷ prefix) rest each = (each.0, EachFrom-prefix P (before ++ e ∷ []) prefix rest each.1)

-- what holds of each entry of a history, holds of each entry of its prefixes
pub EachEntry-prefix : (P : List Entry → Entry → Type 0) (prefix rest : List Entry) → EachEntry P (prefix ++ rest) → EachEntry P prefix
EachEntry-prefix P prefix rest each = EachFrom-prefix P [] prefix rest each

EachFrom-rest : (P : List Entry → Entry → Type 0) (before prefix rest : List Entry) → EachFrom P before (prefix ++ rest) → EachFrom P (before ++ prefix) rest
EachFrom-rest P before [] rest each = subst (λ front. EachFrom P front rest) (sym (append-nil before)) each
EachFrom-rest P before (e ∷ prefix) rest each = subst (λ front. EachFrom P front rest) (append_assoc before (e ∷ []) prefix) (EachFrom-rest P (before ++ e ∷ []) prefix rest each.1)

-- so it does of the entries after a prefix
pub EachEntry-rest : (P : List Entry → Entry → Type 0) (prefix rest : List Entry) → EachEntry P (prefix ++ rest) → EachFrom P prefix rest
EachEntry-rest P prefix rest each = EachFrom-rest P [] prefix rest each

-- two properties of the same entries
pub EachFrom-both : (P Q : List Entry → Entry → Type 0) (before history : List Entry) → EachFrom P before history → EachFrom Q before history → EachFrom (λ front e. P front e × Q front e) before history
EachFrom-both P Q before [] each also = tt
EachFrom-both P Q before (e ∷ rest) each also = ((each.0, also.0), EachFrom-both P Q (before ++ e ∷ []) rest each.1 also.1)

-- what holds before some entries, and is kept by each of which P holds, holds after them
pub EachFrom-keeps : (P : List Entry → Entry → Type 0) (Inv : List Entry → Type 0) → ((before : List Entry) (e : Entry) → Inv before → P before e → Inv (before ++ e ∷ []))
    → (before history : List Entry) → Inv before → EachFrom P before history → Inv (before ++ history)
EachFrom-keeps P Inv more before [] held each = rw append-nil held
EachFrom-keeps P Inv more before (x ∷ xs) held each = subst Inv (append_assoc before (x ∷ []) xs) (EachFrom-keeps P Inv more (before ++ x ∷ []) xs (more before x held each.0) each.1)

-- what holds at the start, and is kept by each entry of which P holds, holds of the history
pub each-keeps : (P : List Entry → Entry → Type 0) (Inv : List Entry → Type 0) → Inv [] → ((before : List Entry) (e : Entry) → Inv before → P before e → Inv (before ++ e ∷ []))
    → (history : List Entry) → EachEntry P history → Inv history
each-keeps P Inv start more history each = EachFrom-keeps P Inv more [] history start each

along_from-more : {X : Type 0} (step : List Entry → X → Entry → X) (before : List Entry) (first : X) (history : List Entry) (e : Entry)
    → along_from step before first (history ++ e ∷ []) ≡ step (before ++ history) (along_from step before first history) e
along_from-more step before first [] e = search rules
along_from-more step before first (x ∷ xs) e = along_from-more step (before ++ x ∷ []) (step before first x) xs e ∙ ap (λ front. step front (along_from step (before ++ x ∷ []) (step before first x) xs) e) (append_assoc before (x ∷ []) xs)

-- one more entry makes one more step
pub along-more : {X : Type 0} (step : List Entry → X → Entry → X) (first : X) (history : List Entry) (e : Entry)
    → along step first (history ++ e ∷ []) ≡ step history (along step first history) e
along-more step first history e = along_from-more step [] first history e

-- one more entry of the backend makes one more step
pub own-own : {X : Type 0} (b : ℕ) (step : List Entry → X → Entry → X) (first : X) (history : List Entry) (e : Entry) → (e.backend == b) ≡ true
    → along_own b step first (history ++ e ∷ []) ≡ step history (along_own b step first history) e
own-own b step first history e own = along-more (λ before x y. if y.backend == b then step before x y else x) first history e ∙ rw own refl

-- one more entry of another backend makes none
pub own-other : {X : Type 0} (b : ℕ) (step : List Entry → X → Entry → X) (first : X) (history : List Entry) (e : Entry) → (e.backend == b) ≡ false
    → along_own b step first (history ++ e ∷ []) ≡ along_own b step first history
own-other b step first history e other = along-more (λ before x y. if y.backend == b then step before x y else x) first history e ∙ rw other refl

along_from-keeps : {X : Type 0} (R : List Entry → X → Type 0) (step : List Entry → X → Entry → X) → ((before : List Entry) (x : X) (e : Entry) → R before x → R (before ++ e ∷ []) (step before x e))
    → (before : List Entry) (first : X) (history : List Entry) → R before first → R (before ++ history) (along_from step before first history)
along_from-keeps R step more before first [] held = rw append-nil held
along_from-keeps {X} R step more before first (x ∷ xs) held =
    subst (λ front. R front (along_from step (before ++ x ∷ []) (step before first x) xs)) (append_assoc before (x ∷ []) xs) (along_from-keeps R step more (before ++ x ∷ []) (step before first x) xs (more before first x held))

-- what holds at the start, and is kept by each step, holds at the end
pub along-keeps : {X : Type 0} (R : List Entry → X → Type 0) (step : List Entry → X → Entry → X) → ((before : List Entry) (x : X) (e : Entry) → R before x → R (before ++ e ∷ []) (step before x e))
    → (first : X) (history : List Entry) → R [] first → R history (along step first history)
along-keeps R step more first history held = along_from-keeps R step more [] first history held
