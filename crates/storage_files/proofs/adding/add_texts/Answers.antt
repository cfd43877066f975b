use Rattle.std.proofs.Common.{◌≡◌, ◌+◌, ◌++◌, [], arith}
use Rattle.storage_files.proofs.AddLemmas.{are_octets, stands-now}
use Rattle.storage_files.proofs.AddingLemmas.{begin_adding, next_at, octets_fit, sync_there, sync_failed, sync_keeps, sync_added, sync_others}
use Rattle.storage_files.proofs.adding.add_texts.Goals as goal

pub write_pieces-requires-clause-begun : goal.write_pieces-requires-clause-begun
write_pieces-requires-clause-begun g c =
    let s = stands-now c.args.name c.args.end _ (g.met.D.Disk.reads_image c.args.disk.now) c.requires.there in
    let h0 = begin_adding c.args.name c.args.end _ s in
    let e0 : c.args.end ≡ c.args.end + 0 = omega arith in
    (c.args.end, [], _, h0, e0)

pub returns-in_err-second-clause-any_moment : goal.returns-in_err-second-clause-any_moment
returns-in_err-second-clause-any_moment g c =
    let s = stands-now c.args.name c.args.end _ (g.met.D.Disk.reads_image c.args.disk.now) c.requires.there in
    let h0 = begin_adding c.args.name c.args.end _ s in
    let e0 : c.args.end ≡ c.args.end + 0 = omega arith in
    c.in_err-second.ensures.any_moment c.args.end [] _ h0 e0

pub write_pieces-requires-2-clause-begun : goal.write_pieces-requires-2-clause-begun
write_pieces-requires-2-clause-begun g c =
    let s = stands-now c.args.name c.args.end _ (g.met.D.Disk.reads_image c.args.disk.now) c.requires.there in
    let h0 = begin_adding c.args.name c.args.end _ s in
    let e0 : c.args.end ≡ c.args.end + 0 = omega arith in
    let h1 = c.in_ok-second.ensures.added c.args.end [] _ h0 e0 in
    let e1 = c.in_ok-second.ensures.end in
    (c.args.end, c.args.front.now, _, h1, e1)

pub returns-in_err-third-clause-any_moment : goal.returns-in_err-third-clause-any_moment
returns-in_err-third-clause-any_moment g c =
    let s = stands-now c.args.name c.args.end _ (g.met.D.Disk.reads_image c.args.disk.now) c.requires.there in
    let h0 = begin_adding c.args.name c.args.end _ s in
    let e0 : c.args.end ≡ c.args.end + 0 = omega arith in
    let h1 = c.in_ok-second.ensures.added c.args.end [] _ h0 e0 in
    let e1 = c.in_ok-second.ensures.end in
    c.in_err-third.ensures.any_moment c.args.end c.args.front.now _ h1 e1

pub write_pieces-requires-3-clause-begun : goal.write_pieces-requires-3-clause-begun
write_pieces-requires-3-clause-begun g c =
    let s = stands-now c.args.name c.args.end _ (g.met.D.Disk.reads_image c.args.disk.now) c.requires.there in
    let h0 = begin_adding c.args.name c.args.end _ s in
    let e0 : c.args.end ≡ c.args.end + 0 = omega arith in
    let h1 = c.in_ok-second.ensures.added c.args.end [] _ h0 e0 in
    let e1 = c.in_ok-second.ensures.end in
    let h2 = c.in_ok-third.ensures.added c.args.end c.args.front.now _ h1 e1 in
    let e2 = next_at c.args.end c.in_ok-second.second c.in_ok-third.third c.args.front.now c.args.body.now e1 c.in_ok-third.ensures.end in
    (c.args.end, c.args.front.now ++ c.args.body.now, _, h2, e2)

pub returns-in_err-behind-clause-any_moment : goal.returns-in_err-behind-clause-any_moment
returns-in_err-behind-clause-any_moment g c =
    let s = stands-now c.args.name c.args.end _ (g.met.D.Disk.reads_image c.args.disk.now) c.requires.there in
    let h0 = begin_adding c.args.name c.args.end _ s in
    let e0 : c.args.end ≡ c.args.end + 0 = omega arith in
    let h1 = c.in_ok-second.ensures.added c.args.end [] _ h0 e0 in
    let e1 = c.in_ok-second.ensures.end in
    let h2 = c.in_ok-third.ensures.added c.args.end c.args.front.now _ h1 e1 in
    let e2 = next_at c.args.end c.in_ok-second.second c.in_ok-third.third c.args.front.now c.args.body.now e1 c.in_ok-third.ensures.end in
    c.in_err-behind.ensures.any_moment c.args.end (c.args.front.now ++ c.args.body.now) _ h2 e2

pub sync-requires : goal.sync-requires
sync-requires g c =
    let s = stands-now c.args.name c.args.end _ (g.met.D.Disk.reads_image c.args.disk.now) c.requires.there in
    let h0 = begin_adding c.args.name c.args.end _ s in
    let e0 : c.args.end ≡ c.args.end + 0 = omega arith in
    let h1 = c.in_ok-second.ensures.added c.args.end [] _ h0 e0 in
    let e1 = c.in_ok-second.ensures.end in
    let h2 = c.in_ok-third.ensures.added c.args.end c.args.front.now _ h1 e1 in
    let e2 = next_at c.args.end c.in_ok-second.second c.in_ok-third.third c.args.front.now c.args.body.now e1 c.in_ok-third.ensures.end in
    let h3 = c.in_ok-behind.ensures.added c.args.end (c.args.front.now ++ c.args.body.now) _ h2 e2 in
    sync_there c.args.name c.args.end ((c.args.front.now ++ c.args.body.now) ++ c.args.back.now) _ _ h3

pub returns-in_err-sync-clause-any_moment : goal.returns-in_err-sync-clause-any_moment
returns-in_err-sync-clause-any_moment g c =
    let s = stands-now c.args.name c.args.end _ (g.met.D.Disk.reads_image c.args.disk.now) c.requires.there in
    let h0 = begin_adding c.args.name c.args.end _ s in
    let e0 : c.args.end ≡ c.args.end + 0 = omega arith in
    let h1 = c.in_ok-second.ensures.added c.args.end [] _ h0 e0 in
    let e1 = c.in_ok-second.ensures.end in
    let h2 = c.in_ok-third.ensures.added c.args.end c.args.front.now _ h1 e1 in
    let e2 = next_at c.args.end c.in_ok-second.second c.in_ok-third.third c.args.front.now c.args.body.now e1 c.in_ok-third.ensures.end in
    let h3 = c.in_ok-behind.ensures.added c.args.end (c.args.front.now ++ c.args.body.now) _ h2 e2 in
    sync_failed c.args.name c.args.end ((c.args.front.now ++ c.args.body.now) ++ c.args.back.now) _ _ _ h3 c.in_err-sync.ensures.failed

pub returns-clause-any_moment : goal.returns-clause-any_moment
returns-clause-any_moment g c =
    let s = stands-now c.args.name c.args.end _ (g.met.D.Disk.reads_image c.args.disk.now) c.requires.there in
    let h0 = begin_adding c.args.name c.args.end _ s in
    let e0 : c.args.end ≡ c.args.end + 0 = omega arith in
    let h1 = c.in_ok-second.ensures.added c.args.end [] _ h0 e0 in
    let e1 = c.in_ok-second.ensures.end in
    let h2 = c.in_ok-third.ensures.added c.args.end c.args.front.now _ h1 e1 in
    let e2 = next_at c.args.end c.in_ok-second.second c.in_ok-third.third c.args.front.now c.args.body.now e1 c.in_ok-third.ensures.end in
    let h3 = c.in_ok-behind.ensures.added c.args.end (c.args.front.now ++ c.args.body.now) _ h2 e2 in
    sync_keeps c.args.name c.args.end ((c.args.front.now ++ c.args.body.now) ++ c.args.back.now) _ _ _ h3 c.in_ok-sync.ensures.state

pub returns-clause-added : goal.returns-clause-added
returns-clause-added g c =
    let s = stands-now c.args.name c.args.end _ (g.met.D.Disk.reads_image c.args.disk.now) c.requires.there in
    let h0 = begin_adding c.args.name c.args.end _ s in
    let e0 : c.args.end ≡ c.args.end + 0 = omega arith in
    let h1 = c.in_ok-second.ensures.added c.args.end [] _ h0 e0 in
    let e1 = c.in_ok-second.ensures.end in
    let h2 = c.in_ok-third.ensures.added c.args.end c.args.front.now _ h1 e1 in
    let e2 = next_at c.args.end c.in_ok-second.second c.in_ok-third.third c.args.front.now c.args.body.now e1 c.in_ok-third.ensures.end in
    let h3 = c.in_ok-behind.ensures.added c.args.end (c.args.front.now ++ c.args.body.now) _ h2 e2 in
    sync_added c.args.name c.args.end ((c.args.front.now ++ c.args.body.now) ++ c.args.back.now) _ _ _ h3 (octets_fit c.args.front.now c.args.body.now c.args.back.now (are_octets c.args.front.now c.type_inv.front) (are_octets c.args.body.now c.type_inv.body) (are_octets c.args.back.now c.type_inv.back)) c.in_ok-sync.ensures.state

pub returns-clause-others : goal.returns-clause-others
returns-clause-others g c =
    let s = stands-now c.args.name c.args.end _ (g.met.D.Disk.reads_image c.args.disk.now) c.requires.there in
    let h0 = begin_adding c.args.name c.args.end _ s in
    let e0 : c.args.end ≡ c.args.end + 0 = omega arith in
    let h1 = c.in_ok-second.ensures.added c.args.end [] _ h0 e0 in
    let e1 = c.in_ok-second.ensures.end in
    let h2 = c.in_ok-third.ensures.added c.args.end c.args.front.now _ h1 e1 in
    let e2 = next_at c.args.end c.in_ok-second.second c.in_ok-third.third c.args.front.now c.args.body.now e1 c.in_ok-third.ensures.end in
    let h3 = c.in_ok-behind.ensures.added c.args.end (c.args.front.now ++ c.args.body.now) _ h2 e2 in
    sync_others c.args.name c.args.end ((c.args.front.now ++ c.args.body.now) ++ c.args.back.now) _ _ _ h3 c.in_ok-sync.ensures.state
