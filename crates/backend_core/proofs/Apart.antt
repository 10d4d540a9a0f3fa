-- What a backend does between two of its turns is right whatever others enter meanwhile.
use Rattle.std.proofs.Common.{◌≡◌, ◌≢◌, ◌∙◌, ℕ, Bool, false, List, [], ◌∷◌, ◌++◌, refl, sym, ap, subst, append_assoc, append-nil, ne_eqb}
use Rattle.std.specs.List.{AllByRecursion}
use Rattle.std.proofs.lemmas.List.{map_push}
use Rattle.history_model.specs.MayFollow.{AllowsLook}
use Rattle.seg_calls.specs.Calls.{MayCall}
use Rattle.backend_core.specs.Types.{Scenario, Entry, Backend}
use Rattle.backend_core.specs.declared.turns.HeldLook.{HeldLook}
use Rattle.backend_core.specs.Agrees.{IsPlayed, AgreesNow, Stands}
use Rattle.backend_core.specs.Apart.{AllowsHeld, StandsApart, AgreesApart}
use Rattle.backend_core.specs.Looks.{MakesLook, Looked, GoesWherever, held_look, entry_held, entries_of, MayCallAll}
use Rattle.backend_core.proofs.Cutting.StandsAlike.{Stands-alike}
use Rattle.backend_core.proofs.Others.{Stands-other}
use Rattle.backend_core.proofs.Stepped.{awaits_stands}

-- where a backend is it stays, with entries of others
pub Stands-others : (scenario : Scenario) (seen others : List Entry) (s : Backend) → AllByRecursion (λ e. e.backend ≢ s.progress.id) others → Stands scenario seen s → Stands scenario (seen ++ others) s
Stands-others scenario seen [] s apart stands = subst (λ h. Stands scenario h s) (sym (append-nil seen)) stands
Stands-others scenario seen (e ∷ others) s apart stands = subst (λ h. Stands scenario h s) (append_assoc seen (e ∷ []) others)
    (Stands-others scenario (seen ++ e ∷ []) others s apart.1 (Stands-other scenario seen e s (ne_eqb e.backend s.progress.id apart.0) stands))

-- so it stands apart as its turn ends
pub apart_first : (scenario : Scenario) (seen : List Entry) (s : Backend) → Stands scenario seen s → StandsApart scenario s.progress.id seen [] s
apart_first scenario seen s stands = λ later alike others apart played allows. record {
  id = λ i. s.progress.id;
  calls = tt;
  played = subst (IsPlayed later) (sym (append-nil (seen ++ others))) played;
  right = subst (λ h. Stands later h s) (sym (append-nil (seen ++ others))) (Stands-alike scenario later (seen ++ others) s alike (Stands-others scenario seen others s apart stands));
}

-- of looks that are allowed in order the last is, after those before it
allows_last : (history : List Entry) (b : ℕ) (held : List HeldLook) (look : HeldLook) → AllowsHeld history b (held ++ look ∷ []) → AllowsHeld history b held × AllowsLook (history ++ entries_of b held) b look.some_wait
allows_last history b [] look allows = (tt, subst (λ h. AllowsLook h b look.some_wait) (sym (append-nil history)) allows.0)
allows_last history b (first ∷ held) look allows = let rest = allows_last (history ++ entry_held b first ∷ []) b held look allows.1 in
    ((allows.0, rest.0), subst (λ h. AllowsLook h b look.some_wait) (append_assoc history (entry_held b first ∷ []) (entries_of b held)) rest.1)

-- one call more
calls_more : (scenario : Scenario) (history : List Entry) (b : ℕ) (held : List HeldLook) (look : HeldLook) → MayCallAll scenario history (entries_of b held) → MayCall scenario (history ++ entries_of b held) (entry_held b look) → MayCallAll scenario history (entries_of b (held ++ look ∷ []))
calls_more scenario history b [] look calls call = (subst (λ h. MayCall scenario h (entry_held b look)) (append-nil history) call, tt)
calls_more scenario history b (first ∷ held) look calls call = (calls.0, calls_more scenario (history ++ entry_held b first ∷ []) b held look calls.1 (subst (λ h. MayCall scenario h (entry_held b look)) (sym (append_assoc history (entry_held b first ∷ []) (entries_of b held))) call))

-- the entries with that of one look more
entries_more : (history : List Entry) (b : ℕ) (held : List HeldLook) (look : HeldLook) → (history ++ entries_of b held) ++ entry_held b look ∷ [] ≡ history ++ entries_of b (held ++ look ∷ [])
entries_more history b held look = append_assoc history (entries_of b held) (entry_held b look ∷ []) ∙ ap (λ l. history ++ l) (sym (map_push (entry_held b) held look))

-- a look by its word is right whatever others have entered
pub apart_look : (scenario : Scenario) (b : ℕ) (seen : List Entry) (held : List HeldLook) (was now : Backend) (some_wait : Bool) → StandsApart scenario b seen held was → MakesLook was some_wait now → AgreesApart scenario b seen (held ++ held_look was some_wait ∷ []) now
apart_look scenario b seen held was now some_wait stood makes = λ later alike others apart played allows.
    let look = held_look was some_wait in
    let before = allows_last (seen ++ others) b held look allows in
    let stands = stood later alike others apart played before.0 in
    let after = (seen ++ others) ++ entries_of b held in
    let looked : Looked later after was some_wait now = makes later after stands.right stands.played (subst (λ n. AllowsLook after n some_wait) (sym stands.id) before.1) in
    let same : entry_held was.progress.id look ≡ entry_held b look = ap (λ n. entry_held n look) stands.id in
    let longer : after ++ entry_held was.progress.id look ∷ [] ≡ (seen ++ others) ++ entries_of b (held ++ look ∷ []) = ap (λ e. after ++ e ∷ []) same ∙ entries_more (seen ++ others) b held look in
    record {
      id = looked.id ∙ stands.id;
      calls = calls_more later (seen ++ others) b held look stands.calls (subst (MayCall later after) same looked.call);
      played = subst (IsPlayed later) longer looked.played;
      right = subst (λ h. AgreesNow later h now) longer looked.agrees;
    }

-- and so is what it does then without an entry: until it waits for one
pub apart_goes : (scenario : Scenario) (b : ℕ) (seen : List Entry) (held : List HeldLook) (over : Bool) (was now : Backend) → AgreesApart scenario b seen held was → GoesWherever over was now → AgreesApart scenario b seen held now
apart_goes scenario b seen held over was now agreed goes = λ later alike others apart played allows.
    let agrees = agreed later alike others apart played allows in
    let on = goes later ((seen ++ others) ++ entries_of b held) agrees.right in
    record { id = on.id ∙ agrees.id; calls = agrees.calls; played = agrees.played; right = on.agrees }

pub apart_waits : (scenario : Scenario) (b : ℕ) (seen : List Entry) (held : List HeldLook) (was now : Backend) → AgreesApart scenario b seen held was → GoesWherever false was now → StandsApart scenario b seen held now
apart_waits scenario b seen held was now agreed goes = λ later alike others apart played allows.
    let agrees = agreed later alike others apart played allows in
    let on = goes later ((seen ++ others) ++ entries_of b held) agrees.right in
    record { id = on.id ∙ agrees.id; calls = agrees.calls; played = agrees.played; right = awaits_stands later ((seen ++ others) ++ entries_of b held) now (on.waits refl) }
