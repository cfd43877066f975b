use Rattle.std.proofs.Common.{◌≡◌, List, ℕ, [], ap, sym, subst, ◌∙◌}
use Rattle.disk_model.specs.Disk.{EachImage, IfTold, OthersStay}
use Rattle.gate_log.specs.Log.{IsLogWithOrWithoutAll, Holds, cut_by}
use Rattle.gate_log.specs.State.{LogState}
use Rattle.model_rebuild.specs.RebuildMoments.{KeepsLog}
use Rattle.store_rebuild.proofs.LogLemmas.{first_images, entry_images, roomy_holds, holds_log, no_entries}
use Rattle.store_rebuild.proofs.log.write_log.Goals as goal

pub returns-in_err-log-clause-any_moment : goal.returns-in_err-log-clause-any_moment
returns-in_err-log-clause-any_moment g c = first_images c.args.name c.args.head c.args.new _ _ c.in_err-log.ensures.any_moment

pub returns-then-is_empty-clause-any_moment : goal.returns-then-is_empty-clause-any_moment
returns-then-is_empty-clause-any_moment g c = first_images c.args.name c.args.head c.args.new _ _ c.in_ok-log.ensures.any_moment

pub returns-then-is_empty-clause-made : goal.returns-then-is_empty-clause-made
returns-then-is_empty-clause-made g c =
    let none : c.args.new ≡ [] = sym c.new.view_is ∙ no_entries c.new.inside.lengths.items c.as_slice-sizes.result.now c.new.inside.octets c.as_slice-sizes.ensures.value c.if-is_empty.ensures in
    subst (λ (ts : List (List ℕ)). IfTold (g.D.Disk.history c.make_empty_log.new.disk) (λ now. KeepsLog now c.args.name c.args.head ts)) (sym none)
    (holds_log c.in_ok-log.log c.args.name c.args.head [] _ (ap (λ (l : LogState). l.name) c.in_ok-log.ensures.log) (ap (λ (l : LogState). l.head) c.in_ok-log.ensures.log) c.in_ok-log.ensures.made)

pub returns-in_err-append_many-clause-any_moment : goal.returns-in_err-append_many-clause-any_moment
returns-in_err-append_many-clause-any_moment g c =
    let same : cut_by c.as_slice-sizes.result.now c.as_slice.result.now ≡ c.args.new = cc (c.as_slice.ensures, c.as_slice-sizes.ensures.value, c.new.view_is) in
    entry_images c.args.name c.args.head c.args.new c.in_ok-log.log c.take_room.new.self _ _ _ _ c.in_ok-log.ensures.log c.take_room.ensures c.in_ok-log.ensures.others c.in_ok-log.ensures.any_moment
    (subst (λ (ts : List (List ℕ)). EachImage (λ _ image. IsLogWithOrWithoutAll c.take_room.new.self.head [] ts (image c.take_room.new.self.name) × OthersStay c.take_room.new.self.name (g.D.Disk.history c.make_empty_log.new.disk) image) (g.D.Disk.history c.make_empty_log.new.disk) (g.D.Disk.history c.append_many.new.disk)) same
    (c.in_err-append_many.ensures.any_moment [] (roomy_holds c.in_ok-log.log _ _ _ c.take_room.ensures c.in_ok-log.ensures.made)))

pub returns-clause-any_moment : goal.returns-clause-any_moment
returns-clause-any_moment g c =
    let same : cut_by c.as_slice-sizes.result.now c.as_slice.result.now ≡ c.args.new = cc (c.as_slice.ensures, c.as_slice-sizes.ensures.value, c.new.view_is) in
    entry_images c.args.name c.args.head c.args.new c.in_ok-log.log c.take_room.new.self _ _ _ _ c.in_ok-log.ensures.log c.take_room.ensures c.in_ok-log.ensures.others c.in_ok-log.ensures.any_moment
    (subst (λ (ts : List (List ℕ)). EachImage (λ _ image. IsLogWithOrWithoutAll c.take_room.new.self.head [] ts (image c.take_room.new.self.name) × OthersStay c.take_room.new.self.name (g.D.Disk.history c.make_empty_log.new.disk) image) (g.D.Disk.history c.make_empty_log.new.disk) (g.D.Disk.history c.append_many.new.disk)) same
    (c.in_ok-append_many.ensures.any_moment [] (roomy_holds c.in_ok-log.log _ _ _ c.take_room.ensures c.in_ok-log.ensures.made)))

pub returns-clause-made : goal.returns-clause-made
returns-clause-made g c =
    let same : cut_by c.as_slice-sizes.result.now c.as_slice.result.now ≡ c.args.new = cc (c.as_slice.ensures, c.as_slice-sizes.ensures.value, c.new.view_is) in
    let name : c.append_many.new.self.name ≡ c.args.name = c.append_many.ensures.log.name ∙ ap (λ (l : LogState). l.name) c.take_room.ensures ∙ ap (λ (l : LogState). l.name) c.in_ok-log.ensures.log in
    let head : c.append_many.new.self.head ≡ c.args.head = c.append_many.ensures.log.head ∙ ap (λ (l : LogState). l.head) c.take_room.ensures ∙ ap (λ (l : LogState). l.head) c.in_ok-log.ensures.log in
    holds_log c.append_many.new.self c.args.name c.args.head c.args.new _ name head
    (subst (λ (ts : List (List ℕ)). Holds c.append_many.new.self ts (g.D.Disk.history c.append_many.new.disk)) same
    (c.in_ok-append_many.ensures.held [] (roomy_holds c.in_ok-log.log _ _ _ c.take_room.ensures c.in_ok-log.ensures.made)))
