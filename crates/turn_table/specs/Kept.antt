-- What holds of the table between any two steps.
use Rattle.std.specs.Prelude.{◌≡◌, ◌≢◌, ◌⊎◌, ℕ, ◌+◌, ◌%◌, ◌^◌, ◌<◌, ◌≤◌, List, [], ◌∷◌, ◌++◌, length, Bool, true, false, Option, Some, zero, suc}
use Rattle.std.specs.List.{AllByRecursion}
use mathlib.Core.Option.{some, none}
use mathlib.Core.Option as maybe
use lib.ListN.{get_elem?}
use Rattle.atomic_table.specs.Table.{State}
use Rattle.turn_table.specs.declared.view.Setup.{Setup}
use Rattle.turn_table.specs.declared.view.Part.{Part}
use Rattle.turn_table.specs.declared.view.Stage.{Stage}
use Rattle.turn_table.specs.declared.view.Stage.TheVariants.{Resting, Drawn, InTurn}
use Rattle.turn_table.specs.declared.view.View.{View}
use Rattle.turn_table.specs.Histories.{Follows, Grew}
use Rattle.turn_table.specs.Words.{bit, word_of}
use Rattle.turn_table.specs.Views.{One, view_of, tickets, places, IsInTurn, Distinct, part, opened}

-- the sum over a list
abbrev pub total : {A : Type 0} → (A → ℕ) → List A → ℕ
total f [] = 0
total f (x ∷ xs) = f x + total f xs

-- what words, slot and views have in common; tickets count on without end here, and modulo 2 ^ 64 in the words
pub record Core (V E : Type 0) : Type 0 where
  -- the last value at home: it lies there now, or a turn was opened with it
  pub last : V
  -- the next ticket, and the one that is served
  pub ticket : ℕ
  pub serving : ℕ
  -- the words of the seats
  pub words : List ℕ
  -- the view that has the value
  pub out : maybe.Option ℕ
  -- the histories in hand as the open turn raised words
  pub noted : List (List E)
  -- which view stands for a seat, and which view drew a ticket
  pub place : ℕ → ℕ
  pub drawer : ℕ → ℕ

-- what lies in the slot, if no view has it
abbrev pub home : {V : Type 0} → maybe.Option ℕ → V → maybe.Option (Option V)
home none v = some (Some v)
home (some id) v = none

module _ {V F E : Type 0} (fixed : V → F) (history : V → List E) (owner : E → ℕ) (waiting : List E → ℕ → Bool) (room : V → ℕ → ℕ) where
  -- something waits for the seat at one of these histories
  abbrev pub Noted : ℕ → List (List E) → Type 0
  Noted seat [] = ⊥
  Noted seat (h ∷ hs) = (waiting h seat ≡ true) ⊎ Noted seat hs

  -- of a seat that isn't in turn: the last value at home, the words of the seats and the histories noted since
  pub record Rests (last : V) (words : List ℕ) (noted : List (List E)) (p : Part V E) : Type 0 where
    pub seen : Follows owner p.seat p.seen (history last)
    pub roomy : p.room ≤ room last p.seat
    pub lowered : word_of words p.seat ≡ 0 → waiting (history last) p.seat ≡ false
    pub raised : word_of words p.seat ≢ 0 → (waiting (history last) p.seat ≡ true) ⊎ Noted p.seat noted
    pub told : p.told ≡ true → word_of words p.seat ≢ 0

  -- what a view knows, by its stage; what a turn noted were histories of the value in hand
  abbrev pub Knows : Core V E → ℕ → List (Part V E) → Stage V E → Type 0
  Knows c id ps Resting = AllByRecursion (Rests c.last c.words c.noted) ps
  Knows c id ps (Drawn t) = One ps × AllByRecursion (Rests c.last c.words c.noted) ps × (c.serving ≤ t) × (t < c.ticket) × (c.drawer t ≡ id)
  Knows c id ps (InTurn o) = One ps × (c.out ≡ some id) × (o ≡ opened c.last c.words c.noted) × (c.serving < c.ticket) × (c.drawer c.serving ≡ id)
      × AllByRecursion (λ p. (p.seen ≡ history c.last) × AllByRecursion (λ h. Grew owner p.seat (history c.last) h) c.noted) ps

  -- the part is of a seat of this table, for which this view stands
  abbrev pub Sits : Setup V → Core V E → ℕ → Part V E → Type 0
  Sits setup c id p = (p.setup ≡ setup) × (0 < p.seat) × (p.seat ≤ setup.seats) × (c.place p.seat ≡ id)

  pub record ViewOk (setup : Setup V) (c : Core V E) (id : ℕ) (d : View V E) : Type 0 where
    pub sits : AllByRecursion (Sits setup c id) d.parts
    pub distinct : Distinct d.parts
    pub knows : Knows c id d.parts d.stage

  -- what holds between any two steps; `queue`: the tickets not served yet are those that views have; nothing is said of the bells
  pub record Kept (setup : Setup V) (s : State (Option V) (View V E)) : Type 0 where
    pub core : Core V E
    pub bells : List ℕ
    pub words_are : s.words ≡ core.ticket % 2 ^ 64 ∷ core.serving % 2 ^ 64 ∷ (core.words ++ bells)
    pub slot_is : s.homes ≡ home core.out core.last ∷ []
    pub wide : length core.words ≡ setup.seats
    pub few : setup.seats ≤ 64
    pub queue : core.serving + total tickets s.views ≡ core.ticket
    pub all_sit : total places s.views ≡ setup.seats
    pub same : fixed core.last ≡ fixed setup.start.value
    pub exact : core.out ≡ none → (k : ℕ) → 0 < k → k ≤ setup.seats → word_of core.words k ≡ bit (waiting (history core.last) k)
    pub quiet : core.out ≡ none → core.noted ≡ []
    pub in_turn : (id : ℕ) → core.out ≡ some id → (d : View V E) × (get_elem? s.views id ≡ some d) × IsInTurn d.stage
    pub each_view : (id : ℕ) (d : View V E) → get_elem? s.views id ≡ some d → ViewOk setup core id d

  -- the parts of the seats from k on, n of them, before the first turn
  abbrev pub parts_from : Setup V → ℕ → ℕ → List (Part V E)
  parts_from setup k zero = []
  parts_from setup k (suc n) = part setup k (history setup.start.value) (room setup.start.value k) false ∷ parts_from setup (suc k) n

  -- the view that a new table begins with
  abbrev pub first_view : Setup V → View V E
  first_view setup = view_of Resting (parts_from setup 1 setup.seats)
