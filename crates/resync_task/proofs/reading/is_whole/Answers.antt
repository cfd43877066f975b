use Rattle.resync_task.proofs.Common.{◌+◌, ℕ, arith, subst, EndsBefore, IsHeaderAt}
use Rattle.resync_task.proofs.ReadLemmas.{only_then}
use Rattle.resync_task.proofs.RegionEndLemmas.{row_ends, row_other, row_short}
use Rattle.resync_task.proofs.WindowLemmas.{none_is, piece_back, some_is}
use Rattle.resync_task.proofs.reading.is_whole.Goals as goal

pub returns-in_default-clause-tells : goal.returns-in_default-clause-tells
returns-in_default-clause-tells g c =
    row_short (g.D.Disk.history c.args.store.now.disk) c.args.row (subst (λ (n : ℕ). EndsBefore (g.D.Disk.history c.args.store.now.disk) c.args.row.file.0 n 30) c.from-offset.ensures (none_is _ _ c.in_default.is c.in_ok-header.ensures.none))

pub returns-in_default-tail_of-clause-tells : goal.returns-in_default-tail_of-clause-tells
returns-in_default-tail_of-clause-tells g c =
    row_other (g.D.Disk.history c.args.store.now.disk) c.args.row c.in-Some.header
    (subst (λ (n : ℕ). IsHeaderAt (g.D.Disk.history c.args.store.now.disk) c.args.row.file.0 n c.in-Some.header) c.from-offset.ensures
    (some_is _ c.in-Some.header (IsHeaderAt (g.D.Disk.history c.args.store.now.disk) c.args.row.file.0 c.from-offset.result) c.in-Some.is c.in_ok-header.ensures.some)) c.in_default-tail_of.ensures.none

pub returns-in_err-load-clause-only : goal.returns-in_err-load-clause-only
returns-in_err-load-clause-only g c =
    only_then c.args.store.now c.header.new.store c.load.new.store (g.D.Disk.history c.args.store.now.disk) (g.D.Disk.history c.header.new.store.disk) (g.D.Disk.history c.load.new.store.disk) c.header.ensures.only c.load.ensures.only

pub returns-in_err-is-clause-only : goal.returns-in_err-is-clause-only
returns-in_err-is-clause-only g c =
    only_then c.args.store.now c.header.new.store c.load.new.store (g.D.Disk.history c.args.store.now.disk) (g.D.Disk.history c.header.new.store.disk) (g.D.Disk.history c.load.new.store.disk) c.header.ensures.only c.load.ensures.only

pub returns-clause-tells : goal.returns-clause-tells
returns-clause-tells g c =
    row_ends (g.D.Disk.history c.args.store.now.disk) c.args.row c.in-Some.header c.load.new.self.part c.in-Some-tail_of.tail (c.from-offset.result + c.from.result) c.in_ok-is.is' (record {
      header_there =
          subst (λ (n : ℕ). IsHeaderAt (g.D.Disk.history c.args.store.now.disk) c.args.row.file.0 n c.in-Some.header) c.from-offset.ensures
          (some_is _ c.in-Some.header (IsHeaderAt (g.D.Disk.history c.args.store.now.disk) c.args.row.file.0 c.from-offset.result) c.in-Some.is c.in_ok-header.ensures.some);
      tail_is = c.in-Some-tail_of.ensures.some;
      at_is = (let a = c.from-offset.ensures in let b = c.from.ensures in omega (arith, a, b));
      part_there = piece_back (g.D.Disk.history c.args.store.now.disk) (g.D.Disk.history c.header.new.store.disk) c.args.row.file.0 (c.from-offset.result + c.from.result) (c.in-Some-tail_of.tail + 30) c.load.new.self.part c.header.ensures.only.idle c.in_ok-load.ensures.part;
      answer = c.in_ok-is.ensures.is;
    })

pub returns-clause-only : goal.returns-clause-only
returns-clause-only g c =
    only_then c.args.store.now c.header.new.store c.load.new.store (g.D.Disk.history c.args.store.now.disk) (g.D.Disk.history c.header.new.store.disk) (g.D.Disk.history c.load.new.store.disk) c.header.ensures.only c.load.ensures.only
