use Rattle.std.proofs.Common.{◌≡◌, ◌∙◌, ap, refl, true, false}
use Rattle.model_meaning.specs.MapMeaning.{map_applied}
use Rattle.map_index.specs.Value.{MapIndexValue}
use Rattle.store_checks.proofs.ReplayLemmas.{map_taken, map_misfit, some_text}
use Rattle.store_checks.proofs.replay.MapIndexReplay.replay_entry.Goals as goal

pub returns-then-not-fits-clause-taken : goal.returns-then-not-fits-clause-taken
returns-then-not-fits-clause-taken c =
    (refl, map_misfit c.args.self.now.meaning c.args.text.now c.in-Some.entry (some_text _ _ _ _ c.in-Some.is c.in_ok-entry.ensures) (λ f. let e : false ≡ true = c.if-not-fits.ensures.1 f in cc e))

pub returns-clause-taken : goal.returns-clause-taken
returns-clause-taken c = λ texts f.
    map_taken c.args.self.now.meaning c.take_in.new.self.meaning texts c.args.text.now c.in-Some.entry (some_text _ _ _ _ c.in-Some.is c.in_ok-entry.ensures) (c.if-not-fits.ensures.0 refl)
    (ap (λ (v : MapIndexValue). v.meaning) c.take_in.ensures ∙ ap (λ (v : MapIndexValue). map_applied c.in-Some.entry v.meaning) c.in_ok-reserve_for.ensures.ok) f
