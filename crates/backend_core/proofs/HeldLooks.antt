-- Which looks that are held back a history allows, whatever others have entered.
use Rattle.std.proofs.Common.{◌≡◌, ◌≢◌, ◌∙◌, ℕ, true, false, List, [], ◌∷◌, ◌++◌, refl, sym, ap, subst, append_assoc, append-nil}
use Rattle.std.proofs.lemmas.Bool.{eq-eqb, false_from_ne_true, both_ways}
use Rattle.std.specs.List.{AllByRecursion}
use Rattle.history_model.specs.Legal.{IsLegal}
use Rattle.history_model.specs.MayFollow.{AllowsLook}
use Rattle.history_model.specs.Log.{is_waiting, has_waited}
use Rattle.history_model.proofs.Waiting.{not_waited, waited_of-look, waited_of-others, waiting-look, waiting-others}
use Rattle.backend_core.specs.Types.{Entry}
use Rattle.backend_core.specs.declared.turns.HeldLook.{HeldLook}
use Rattle.backend_core.specs.Apart.{AllowsHeld}
use Rattle.backend_core.specs.Looks.{entry_held, entries_of}

-- looks that said no, where nothing has waited
quiet_held : (history : List Entry) (b : ℕ) (held : List HeldLook) → has_waited history b ≡ false → AllByRecursion (λ l. l.some_wait ≡ false) held → AllowsHeld history b held
quiet_held history b [] quiet denied = tt
quiet_held history b (look ∷ held) quiet denied =
    (subst (AllowsLook history b) (sym denied.0) quiet, quiet_held (history ++ entry_held b look ∷ []) b held (waited_of-look history (entry_held b look) b look.some_wait refl (eq-eqb b b refl) ∙ quiet) denied.1)

-- what waits, waits after looks of the backend
waiting_held : (history : List Entry) (b : ℕ) (held : List HeldLook) → is_waiting history b ≡ true → is_waiting (history ++ entries_of b held) b ≡ true
waiting_held history b [] waits = ap (λ h. is_waiting h b) (append-nil history) ∙ waits
waiting_held history b (look ∷ held) waits = ap (λ h. is_waiting h b) (sym (append_assoc history (entry_held b look ∷ []) (entries_of b held)))
    ∙ waiting_held (history ++ entry_held b look ∷ []) b held (waiting-look history (entry_held b look) b look.some_wait refl (eq-eqb b b refl) waits)

-- one look more
allows_more : (history : List Entry) (b : ℕ) (held : List HeldLook) (look : HeldLook) → AllowsHeld history b held → AllowsLook (history ++ entries_of b held) b look.some_wait → AllowsHeld history b (held ++ look ∷ [])
allows_more history b [] look allows last = (subst (λ h. AllowsLook h b look.some_wait) (append-nil history) last, tt)
allows_more history b (first ∷ held) look allows last = (allows.0, allows_more (history ++ entry_held b first ∷ []) b held look allows.1 (subst (λ h. AllowsLook h b look.some_wait) (sym (append_assoc history (entry_held b first ∷ []) (entries_of b held))) last))

-- where nothing waits once others have entered something after a legal history, each history that grows from that by entries of others allows looks that said no
module _ (seen others : List Entry) (b : ℕ) (apart : AllByRecursion (λ e. e.backend ≢ b) others) where
  pub no_allowed : (held : List HeldLook) → IsLegal seen → is_waiting (seen ++ others) b ≡ false → AllByRecursion (λ l. l.some_wait ≡ false) held → (more : List Entry) → AllByRecursion (λ e. e.backend ≢ b) more → AllowsHeld (seen ++ more) b held
  no_allowed held legal none denied more also = quiet_held (seen ++ more) b held (waited_of-others seen more b also ∙ not_waited seen b legal quiet) denied
    where
      quiet : is_waiting seen b ≡ false
      quiet = false_from_ne_true (is_waiting seen b) (λ waits. both_ways _ none (waiting-others seen others b apart waits))

-- and where something waits, a last one that said yes
pub yes_allowed : (history : List Entry) (b : ℕ) (held : List HeldLook) (look : HeldLook) → AllowsHeld history b held → look.some_wait ≡ true → is_waiting history b ≡ true → AllowsHeld history b (held ++ look ∷ [])
yes_allowed history b held look allows told waits = allows_more history b held look allows (subst (AllowsLook (history ++ entries_of b held) b) (sym told) (waiting_held history b held waits))
