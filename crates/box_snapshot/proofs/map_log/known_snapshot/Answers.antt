use Rattle.std.proofs.Common.{All, subst, sym}
use Rattle.model_meaning.specs.MapMeaning.{MapMeaning}
use Rattle.model_meaning.specs.Sound.{IsSoundMap}
use Rattle.model_rewritten.specs.Rewriting.{HasFew, NamesUpTo}
use Rattle.box_snapshot.proofs.MapKnownLemmas.{highest_known}
use Rattle.box_snapshot.proofs.map_log.known_snapshot.Goals as goal

pub returns : goal.returns
returns g c =
    let v = c.args.store.now in
    let s = c.facts.ensures.store in
    let sound : IsSoundMap v.map = subst IsSoundMap (sym s.map_is) (c.meanings_are_sound.ensures.map v.map.store s.entries s.good.map_entries.1 s.good.map_entries.0) in
    let named : NamesUpTo v.map = subst NamesUpTo (sym s.map_is) (c.highest_numbers_are_named.ensures.up_to v.map.store s.entries) in
    let few : All HasFew v.map.records = subst (λ (m : MapMeaning). All HasFew m.records) (sym s.map_is) (c.highest_numbers_are_named.ensures.few v.map.store s.entries s.good.map_entries.0) in
    c.rewritten_logs_mean_the_same.ensures.map v.map sound (highest_known _ v s sound c.facts.ensures.files c.facts.ensures.instances c.facts.ensures.ids) named few
