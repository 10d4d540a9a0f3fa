-- The looks that a backend makes between two of its turns.
use Rattle.std.proofs.Common.{◌≡◌, ◌<◌, ◌+◌, ◌∙◌, ℕ, zero, suc, Bool, List, [], ◌∷◌, ◌++◌, sym, subst, append_assoc, append-nil, length, take, get_or, refl, arith}
use Rattle.history_model.proofs.ListSteps.{map_next}
use Rattle.history_model.proofs.Sound.{sound_is_legal}
use Rattle.seg_calls.specs.Calls.{MayCall, Appends}
use Rattle.cacheless.proofs.Allowed.AllowedHistories.{played_more}
use Rattle.backend_core.specs.Types.{Scenario, Entry, Next, Backend}
use Rattle.backend_core.specs.declared.life.Life.TheVariants as lives
use Rattle.backend_core.specs.declared.look_for.LookFor.{LookFor}
use Rattle.backend_core.specs.declared.next.Next.TheVariants as nexts
use Rattle.backend_core.specs.declared.turns.HeldLook.{HeldLook}
use Rattle.backend_core.specs.Agrees.{IsReady}
use Rattle.backend_core.specs.Looks.{next_of_look, want_of_next, look_of, LooksWherever, IsRight, ToEnter, Wants, MakesLook, entry_held, entries_of, MayCallAll, TakesPlaces}
use Rattle.backend_core.specs.Steps.{IsNextOf}
use Rattle.backend_core.proofs.Entries.Looking.{looks_call}
use Rattle.backend_core.proofs.Stepped.{is_ready}

-- a backend that is right, has joined and hasn't left may make an entry
pub right_ready : (s : Backend) (right : IsRight s) → s.life ≡ lives.Alive → IsReady right.scenario right.seen s
right_ready s right alive = is_ready right.scenario right.seen s right.stands alive right.played.spelled (sound_is_legal right.seen right.played.sound) right.played.plays

-- it wants what its next entry needs
pub wants_next : (s : Backend) (next : Next) → s.life ≡ lives.Alive → IsNextOf s next → Wants s (want_of_next next)
wants_next s nexts.Look alive is = (alive, is)
wants_next s (nexts.LookBeforeScan rebuilds) alive is = (alive, is)
wants_next s nexts.LookBeforeAbsent alive is = (alive, is)
wants_next s next alive is = ToEnter alive next is refl

-- a look is right in each history that allows it
pub makes_look : (was now : Backend) (look : LookFor) (some_wait : Bool) → was.life ≡ lives.Alive → IsNextOf was (next_of_look look) → LooksWherever was some_wait now → MakesLook was some_wait now
makes_look was now look some_wait alive next looks = λ scenario seen stands played allows.
    let ready = is_ready scenario seen was stands alive played.spelled (sound_is_legal seen played.sound) played.plays in
    let call = looks_call scenario seen was look some_wait ready.waits next allows in
    let well = looks scenario seen ready call.follows in
    let later = played_more scenario seen (look_of was some_wait) ready.played ready.course call.follows well.next in
    record { id = well.id; number = well.number; call = call; next = well.next; played = later.0; agrees = well.agrees; goes = well.goes }

-- of looks that may be called for in order each may, after those before it
call_at : (scenario : Scenario) (before : List Entry) (b : ℕ) (held : List HeldLook) (i : ℕ) (d : HeldLook) → i < length held → MayCallAll scenario before (entries_of b held) → MayCall scenario (before ++ entries_of b (take i held)) (entry_held b (get_or held i d))
call_at scenario before b [] i d less each = absurd (omega (arith, less))
call_at scenario before b (look ∷ held) zero d less each = subst (λ h. MayCall scenario h (entry_held b look)) (sym (append-nil before)) each.0
call_at scenario before b (look ∷ held) (suc i) d less each = subst (λ h. MayCall scenario h (entry_held b (get_or held i d))) (append_assoc before (entry_held b look ∷ []) (entries_of b (take i held)))
    (call_at scenario (before ++ entry_held b look ∷ []) b held i d (omega (arith, less)) each.1)

-- the same where those before it are handed over
pub handed_call : (scenario later : Scenario) (before now : List Entry) (b : ℕ) (held : List HeldLook) (i : ℕ) (d : HeldLook) → later ≡ scenario → now ≡ before ++ entries_of b (take i held) → i < length held → MayCallAll scenario before (entries_of b held) → MayCall later now (entry_held b (get_or held i d))
handed_call scenario later before now b held i d same is less each = subst (λ k. MayCall k now (entry_held b (get_or held i d))) (sym same) (subst (λ h. MayCall scenario h (entry_held b (get_or held i d))) (sym is) (call_at scenario before b held i d less each))

-- one more is handed over, by which the history grows and a place is taken
pub handed_more : (before old new : List Entry) (b : ℕ) (held : List HeldLook) (i : ℕ) (d : HeldLook) → i < length held → old ≡ before ++ entries_of b (take i held) → new ≡ old ++ entry_held b (get_or held i d) ∷ [] → new ≡ before ++ entries_of b (take (i + 1) held)
handed_more before old new b held i d less is more = more ∙ map_next (entry_held b) before held i (get_or held i d) d old less refl is

pub takes_more : (old new : List Entry) (had has now : ℕ → ℕ) (b n : ℕ) (look : HeldLook) → TakesPlaces had has b n → Appends old new has now (entry_held b look) → TakesPlaces had now b (n + 1)
takes_more old new had has now b n look takes appends = record {
  own = omega (arith, takes.own, appends.own);
  most = omega (arith, takes.most, appends.most);
  others = λ a other. appends.others a other ∙ takes.others a other;
}
