use Rattle.std.proofs.Common.{◌≤◌, length, take, sym, ap, subst, ◌∙◌, arith}
use Rattle.std.proofs.lemmas.List.{length-take-le}
use Rattle.disk_model.proofs.OtherFileLemmas.{Apart, apart_begins, apart_goes_on, apart_fails, apart_fails_still, apart_images}
use Rattle.gate_log.specs.State.{LogState}
use Rattle.gate_log.specs.Log.{Reads, cut_by}
use Rattle.gate_log.specs.contracts.log.GateLog.{the_view}
use Rattle.gate_log.proofs.HeadLemmas.{octets_of}
use Rattle.gate_log.proofs.LayoutLemmas.{cut_count}
use Rattle.gate_log.proofs.AppendLemmas.{IsLaidOut, IsGrowth, laid_out, fails_1, fails_2, fails_3, fails_4, goes_well, holds_then, reads_then, read_1, read_2, read_3, ask_2, ask_3}
use Rattle.gate_log.proofs.log.GateLog.append_many.Given.{Over}
use Rattle.gate_log.proofs.log.GateLog.append_many.Goals.{After-deref, In_ok-write_at, In_ok-sync, In_ok-write_at-2, In_ok-sync-2}
use Rattle.gate_log.proofs.log.GateLog.append_many.Goals as goal

-- how many octets are written for the entries, and how many entries these are
fits : (g : Over) (c : After-deref g) → c.lay_out-size.result ≤ c.self.inside.buffer.len
fits g c = omega (arith, ap (λ (s : LogState). s.room) c.self.view_is, c.lay_out-size.ensures.size, c.requires.room)

growth : (g : Over) (c : After-deref g) → IsGrowth (cut_by c.args.lengths.now c.args.octets.now) (take c.lay_out-size.result c.deref.result.now) c.lay_out-size.result (length c.args.lengths.now)
growth g c = record {
  size_is = sym (length-take-le c.lay_out-size.result c.deref.result.now (omega (arith, fits g c, c.deref.ensures.len)));
  count_is = sym (cut_count c.args.lengths.now c.args.octets.now);
}

-- and which
laid : (g : Over) (c : After-deref g) → IsLaidOut (cut_by c.args.lengths.now c.args.octets.now) (take c.lay_out-size.result c.deref.result.now)
laid g c =
    laid_out c.args.lengths.now c.args.octets.now c.deref.result.now c.lay_out-size.new.buffer _ c.lay_out-size.result c.self.inside.buffer.len c.requires.some c.requires.whole (octets_of c.args.octets.now c.type_inv.octets)
    c.lay_out-size.ensures.size (fits g c) c.self.invariant.1 (c.lay_out-size.auto.buffer ∙ c.deref_mut.ensures.len) c.deref.ensures.value c.lay_out-size.ensures.laid

reads : (g : Over) (c : After-deref g) → Reads (the_view c.self.inside) c.requires.read.0 (g.D.Disk.history c.args.disk.now)
reads g c = subst (λ (s : LogState). Reads s c.requires.read.0 (g.D.Disk.history c.args.disk.now)) (sym c.self.view_is) c.requires.read.1

-- each image so far has the other files as before

apart_1 : (g : Over) (c : In_ok-write_at g) → Apart (the_view c.self.inside).name (g.D.Disk.history c.args.disk.now) (g.D.Disk.history c.write_at.new.self)
apart_1 g c = apart_goes_on _ _ _ _ _ (apart_begins _ _) c.in_ok-write_at.ensures.state

apart_2 : (g : Over) (c : In_ok-sync g) → Apart (the_view c.self.inside).name (g.D.Disk.history c.args.disk.now) (g.D.Disk.history c.sync.new.self)
apart_2 g c = apart_goes_on _ _ _ _ _ (apart_goes_on _ _ _ _ _ (apart_begins _ _) c.in_ok-write_at.ensures.state) c.in_ok-sync.ensures.state

apart_3 : (g : Over) (c : In_ok-write_at-2 g) → Apart (the_view c.self.inside).name (g.D.Disk.history c.args.disk.now) (g.D.Disk.history c.write_at-2.new.self)
apart_3 g c = apart_goes_on _ _ _ _ _ (apart_goes_on _ _ _ _ _ (apart_goes_on _ _ _ _ _ (apart_begins _ _) c.in_ok-write_at.ensures.state) c.in_ok-sync.ensures.state) c.in_ok-write_at-2.ensures.state

apart_4 : (g : Over) (c : In_ok-sync-2 g) → Apart (the_view c.self.inside).name (g.D.Disk.history c.args.disk.now) (g.D.Disk.history c.sync-2.new.self)
apart_4 g c = apart_goes_on _ _ _ _ _ (apart_goes_on _ _ _ _ _ (apart_goes_on _ _ _ _ _ (apart_goes_on _ _ _ _ _ (apart_begins _ _) c.in_ok-write_at.ensures.state) c.in_ok-sync.ensures.state) c.in_ok-write_at-2.ensures.state) c.in_ok-sync-2.ensures.state

pub returns-in_err-write_at-clause-any_moment : goal.returns-in_err-write_at-clause-any_moment
returns-in_err-write_at-clause-any_moment g c = rw (← c.self.view_is) (λ entries h. fails_1 (the_view c.self.inside) entries (cut_by c.args.lengths.now c.args.octets.now) (take c.lay_out-size.result c.deref.result.now) _ _
    (laid g (goal.at.returns-in_err-write_at-clause-any_moment g c).After-deref) h c.in_err-write_at.ensures.failed)

pub returns-in_err-write_at-clause-others_stay : goal.returns-in_err-write_at-clause-others_stay
returns-in_err-write_at-clause-others_stay g c = rw (← c.self.view_is) (apart_fails _ _ _ _ _ (apart_begins _ _) c.in_err-write_at.ensures.failed)

pub sync-requires : goal.sync-requires
sync-requires g c = ask_2 (the_view c.self.inside) c.requires.read.0 _ _ (read_1 (the_view c.self.inside) c.requires.read.0 (cut_by c.args.lengths.now c.args.octets.now) _ _ _ (reads g (goal.at.sync-requires g c).After-deref) c.in_ok-write_at.ensures.state)

pub returns-in_err-sync-clause-any_moment : goal.returns-in_err-sync-clause-any_moment
returns-in_err-sync-clause-any_moment g c = rw (← c.self.view_is) (λ entries h. fails_2 (the_view c.self.inside) entries (cut_by c.args.lengths.now c.args.octets.now) (take c.lay_out-size.result c.deref.result.now) _ _ _
    (laid g (goal.at.returns-in_err-sync-clause-any_moment g c).After-deref) h c.in_ok-write_at.ensures.state c.in_err-sync.ensures.failed)

pub returns-in_err-sync-clause-others_stay : goal.returns-in_err-sync-clause-others_stay
returns-in_err-sync-clause-others_stay g c = rw (← c.self.view_is) (apart_fails_still _ _ _ _ (apart_1 g (goal.at.returns-in_err-sync-clause-others_stay g c).In_ok-write_at) c.in_err-sync.ensures.failed)

pub write_at-requires-2 : goal.write_at-requires-2
write_at-requires-2 g c = ask_3 (the_view c.self.inside) c.requires.read.0 _ _ (read_2 (the_view c.self.inside) c.requires.read.0 (cut_by c.args.lengths.now c.args.octets.now) _ _ _ _ (reads g (goal.at.write_at-requires-2 g c).After-deref) c.in_ok-write_at.ensures.state c.in_ok-sync.ensures.state)

pub returns-in_err-write_at-2-clause-any_moment : goal.returns-in_err-write_at-2-clause-any_moment
returns-in_err-write_at-2-clause-any_moment g c = rw (← c.self.view_is) (λ entries h. fails_3 (the_view c.self.inside) entries (cut_by c.args.lengths.now c.args.octets.now) (take c.lay_out-size.result c.deref.result.now) _ _ _ _
    (laid g (goal.at.returns-in_err-write_at-2-clause-any_moment g c).After-deref) h c.in_ok-write_at.ensures.state c.in_ok-sync.ensures.state c.in_err-write_at-2.ensures.failed)

pub returns-in_err-write_at-2-clause-others_stay : goal.returns-in_err-write_at-2-clause-others_stay
returns-in_err-write_at-2-clause-others_stay g c = rw (← c.self.view_is) (apart_fails _ _ _ _ _ (apart_2 g (goal.at.returns-in_err-write_at-2-clause-others_stay g c).In_ok-sync) c.in_err-write_at-2.ensures.failed)

pub sync-requires-2 : goal.sync-requires-2
sync-requires-2 g c = ask_2 (the_view c.self.inside) c.requires.read.0 _ _ (read_3 (the_view c.self.inside) c.requires.read.0 (cut_by c.args.lengths.now c.args.octets.now) _ _ _ _ _ (laid g (goal.at.sync-requires-2 g c).After-deref) (reads g (goal.at.sync-requires-2 g c).After-deref) c.in_ok-write_at.ensures.state c.in_ok-sync.ensures.state c.in_ok-write_at-2.ensures.state)

pub returns-in_err-sync-2-clause-any_moment : goal.returns-in_err-sync-2-clause-any_moment
returns-in_err-sync-2-clause-any_moment g c = rw (← c.self.view_is) (λ entries h. fails_4 (the_view c.self.inside) entries (cut_by c.args.lengths.now c.args.octets.now) (take c.lay_out-size.result c.deref.result.now) _ _ _ _ _
    (laid g (goal.at.returns-in_err-sync-2-clause-any_moment g c).After-deref) h c.in_ok-write_at.ensures.state c.in_ok-sync.ensures.state c.in_ok-write_at-2.ensures.state c.in_err-sync-2.ensures.failed)

pub returns-in_err-sync-2-clause-others_stay : goal.returns-in_err-sync-2-clause-others_stay
returns-in_err-sync-2-clause-others_stay g c = rw (← c.self.view_is) (apart_fails_still _ _ _ _ (apart_3 g (goal.at.returns-in_err-sync-2-clause-others_stay g c).In_ok-write_at-2) c.in_err-sync-2.ensures.failed)

pub returns-clause-any_moment : goal.returns-clause-any_moment
returns-clause-any_moment g c = rw (← c.self.view_is) (λ entries h. goes_well (the_view c.self.inside) entries (cut_by c.args.lengths.now c.args.octets.now) (take c.lay_out-size.result c.deref.result.now) _ _ _ _ _
    (laid g (goal.at.returns-clause-any_moment g c).After-deref) h c.in_ok-write_at.ensures.state c.in_ok-sync.ensures.state c.in_ok-write_at-2.ensures.state c.in_ok-sync-2.ensures.state)

pub returns-clause-others_stay : goal.returns-clause-others_stay
returns-clause-others_stay g c = rw (← c.self.view_is) (apart_images _ _ _ (apart_4 g (goal.at.returns-clause-others_stay g c).In_ok-sync-2).each)

pub returns-clause-added : goal.returns-clause-added
returns-clause-added g c = rw (← c.self.view_is) (λ entries h. reads_then (the_view c.self.inside) entries (cut_by c.args.lengths.now c.args.octets.now) (take c.lay_out-size.result c.deref.result.now) _ _ _ _ _
    (laid g (goal.at.returns-clause-added g c).After-deref) _ _ (growth g (goal.at.returns-clause-added g c).After-deref) h c.in_ok-write_at.ensures.state c.in_ok-sync.ensures.state c.in_ok-write_at-2.ensures.state c.in_ok-sync-2.ensures.state)

pub returns-clause-held : goal.returns-clause-held
returns-clause-held g c = rw (← c.self.view_is) (λ entries h. holds_then (the_view c.self.inside) entries (cut_by c.args.lengths.now c.args.octets.now) (take c.lay_out-size.result c.deref.result.now) _ _ _ _ _
    (laid g (goal.at.returns-clause-held g c).After-deref) _ _ (growth g (goal.at.returns-clause-held g c).After-deref) h c.in_ok-write_at.ensures.state c.in_ok-sync.ensures.state c.in_ok-write_at-2.ensures.state c.in_ok-sync-2.ensures.state)

pub returns-clause-others : goal.returns-clause-others
returns-clause-others g c = rw (← c.self.view_is) (apart_4 g (goal.at.returns-clause-others g c).In_ok-sync-2).same
