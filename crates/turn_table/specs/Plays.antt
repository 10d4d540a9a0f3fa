-- What each step tells the seat that makes it: its view before and after, and the word that it found.
use Rattle.std.specs.Prelude.{◌≡◌, ◌≢◌, ℕ, ◌-◌, ◌%◌, ◌^◌, ◌<◌, ◌≤◌, List, [], ◌∷◌, length, Bool, true, false, Option, Some}
use Rattle.atomic_table.specs.Table.{Me, Step}
use Rattle.turn_table.specs.declared.view.Part.{Part}
use Rattle.turn_table.specs.declared.view.Opened.{Opened}
use Rattle.turn_table.specs.declared.view.Stage.TheVariants.{Resting, Drawn, InTurn}
use Rattle.turn_table.specs.declared.view.View.{View}
use Rattle.turn_table.specs.Histories.{Follows}
use Rattle.turn_table.specs.Words.{bit, word_of, set_word}
use Rattle.turn_table.specs.Views.{view_of, part, opened}

module _ {V F E : Type 0} (fixed : V → F) (history : V → List E) (owner : E → ℕ) (waiting : List E → ℕ → Bool) (room : V → ℕ → ℕ) where
  -- the value v as a turn of this seat opens
  pub record Opens (p : Part V E) (v : V) (words : List ℕ) : Type 0 where
    pub same : fixed v ≡ fixed p.setup.start.value
    pub seen : Follows owner p.seat p.seen (history v)
    pub roomy : p.room ≤ room v p.seat
    pub wide : length words ≡ p.setup.seats
    pub exact : (k : ℕ) → 0 < k → k ≤ p.setup.seats → word_of words k ≡ bit (waiting (history v) k)
    pub told : p.told ≡ true → waiting (history v) p.seat ≡ true

  abbrev pub Mine : Type 0
  Mine = Me (Option V) (View V E)

  abbrev pub At : Type 0
  At = Step (Option V)

  -- a seat that has drawn a ticket reads which one is served, and has the value where it is its own
  abbrev pub served : At → Mine → ℕ → Mine → Type 0
  served st m r m' = (t : ℕ) (p : Part V E) → m.0 ≡ view_of (Drawn t) (p ∷ [])
      → (r ≡ t % 2 ^ 64 → (v : V) × (words : List ℕ) × Opens p v words × (m' ≡ (view_of (InTurn (opened v words [])) (part p.setup p.seat (history v) p.room false ∷ []), (0, Some v) ∷ [])))
      × (r ≢ t % 2 ^ 64 → m' ≡ m)

  -- the seat rests again, and has seen the history of the value that it put back
  abbrev pub passed : At → Mine → ℕ → Mine → Type 0
  passed st m r m' = (o : Opened V E) (p : Part V E) (v : V) → m ≡ (view_of (InTurn o) (p ∷ []), (0, Some v) ∷ [])
      → m' ≡ (view_of Resting (part p.setup p.seat (history v) (room v p.seat) false ∷ []), [])

  -- the word is 1, and a history is noted at which something waits for its seat
  abbrev pub raised : At → Mine → ℕ → Mine → Type 0
  raised st m r m' = (o : Opened V E) (ps : List (Part V E)) → m.0 ≡ view_of (InTurn o) ps
      → (h : List E) × (waiting h (st.word - 1) ≡ true) × (m' ≡ (view_of (InTurn (opened o.value (set_word o.words (st.word - 1) 1) (h ∷ o.noted))) ps, m.1))

  -- a seat at rest has seen more, and nothing waits there where it found 0
  abbrev pub looked : At → Mine → ℕ → Mine → Type 0
  looked st m r m' = (p : Part V E) → m.0 ≡ view_of Resting (p ∷ [])
      → (seen : List E) × (told : Bool) × Follows owner p.seat p.seen seen × (r ≡ 0 → (told ≡ false) × (waiting seen p.seat ≡ false)) × (r ≢ 0 → told ≡ true)
      × (m' ≡ (view_of Resting (part p.setup p.seat seen p.room told ∷ []), m.1))

module _ {V E : Type 0} where
  -- the seat has a ticket, whose number modulo 2 ^ 64 it found
  abbrev pub drew : Step (Option V) → Me (Option V) (View V E) → ℕ → Me (Option V) (View V E) → Type 0
  drew st m r m' = (t : ℕ) × (r ≡ t % 2 ^ 64) × (m' ≡ (view_of (Drawn t) m.0.parts, m.1))

  -- a bell rang, and the seat is as it was
  abbrev pub rang : Step (Option V) → Me (Option V) (View V E) → ℕ → Me (Option V) (View V E) → Type 0
  rang st m r m' = m' ≡ m

  -- the word is 0
  abbrev pub lowered : Step (Option V) → Me (Option V) (View V E) → ℕ → Me (Option V) (View V E) → Type 0
  lowered st m r m' = (o : Opened V E) (ps : List (Part V E)) → m.0 ≡ view_of (InTurn o) ps → m' ≡ (view_of (InTurn (opened o.value (set_word o.words (st.word - 1) 0) o.noted)) ps, m.1)
