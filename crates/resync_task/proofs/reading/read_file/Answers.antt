use Rattle.resync_task.proofs.Common.{◌+◌, ℕ, refl, sym, ◌∙◌, ap, subst, arith, IsReadOf, MapRow}
use Rattle.resync_task.proofs.DamageLemmas.{begins, ends, few_so_far, goes_on, many_then, AreSoFar, next_of, none_of, row_ends, store_sound}
use Rattle.resync_task.proofs.ReadLemmas.{ok_apart, only_none, only_then, tells_before}
use Rattle.resync_task.proofs.WindowLemmas.{has_none}
use Rattle.resync_task.proofs.reading.read_file.Goals as goal
use Rattle.resync_task.proofs.reading.read_file.Goals.{then-not-branch, else-not-branch}

pub loop-row-init : goal.loop-row-init
loop-row-init g c = (only_none c.args.store.now (g.D.Disk.history c.args.store.now.disk), refl, begins (g.D.Disk.history c.args.store.now.disk) c.args.store.now.map c.args.file.0, has_none (g.D.Disk.history c.args.store.now.disk) c.args.file.0 _ c.clear.ensures)

pub is_whole-requires : goal.is_whole-requires
is_whole-requires g c =
    let n = next_of (g.D.Disk.history c.args.store.now.disk) c.args.store.now c.loop-row.store c.map.result.now.meaning c.args.file.0 c.loop-row.from c.in-Some.row c.facts.ensures.store c.loop-row.invariant.0.same c.map.ensures (sym c.in-Some.is ∙ c.in_file.ensures) in
    subst (λ (number : ℕ). IsReadOf (g.D.Disk.history c.loop-row.store.disk) number c.loop-row.window) (sym (ap (λ (r : MapRow). r.file.0) n.shown ∙ n.of_file)) c.loop-row.invariant.3

pub returns-in_err-is_whole-clause-only : goal.returns-in_err-is_whole-clause-only
returns-in_err-is_whole-clause-only g c =
    only_then c.args.store.now c.loop-row.store c.is_whole.new.store (g.D.Disk.history c.args.store.now.disk) (g.D.Disk.history c.loop-row.store.disk) (g.D.Disk.history c.is_whole.new.store.disk) c.loop-row.invariant.0 c.is_whole.ensures.only

pub overflow_add-damaged : goal.overflow_add-damaged
overflow_add-damaged g c =
    let n = next_of (g.D.Disk.history c.args.store.now.disk) c.args.store.now c.loop-row.store c.map.result.now.meaning c.args.file.0 c.loop-row.from c.in-Some.row c.facts.ensures.store c.loop-row.invariant.0.same c.map.ensures (sym c.in-Some.is ∙ c.in_file.ensures) in
    let r = row_ends c.args.store.now.map c.args.file.0 c.loop-row.from c.in-Some.row n in
    let few = few_so_far (g.D.Disk.history c.args.store.now.disk) c.args.store.now.map c.args.file.0 c.loop-row.from c.loop-row.damaged c.loop-row.invariant.2 in
    let a = r.0 in
    let b = r.1 in
    let d = r.2 in
    omega (arith, a, b, d, few)

pub overflow_add-from : goal.overflow_add-from
overflow_add-from g c =
    let n = next_of (g.D.Disk.history c.args.store.now.disk) c.args.store.now c.loop-row.store c.map.result.now.meaning c.args.file.0 c.loop-row.from c.in-Some.row c.facts.ensures.store c.loop-row.invariant.0.same c.map.ensures (sym c.in-Some.is ∙ c.in_file.ensures) in
    let r = row_ends c.args.store.now.map c.args.file.0 c.loop-row.from c.in-Some.row n in
    let d = r.2 in
    omega (arith, d)

pub loop-row-smaller : goal.loop-row-smaller
loop-row-smaller g c =
    let n = next_of (g.D.Disk.history c.args.store.now.disk) c.args.store.now c.loop-row.store c.map.result.now.meaning c.args.file.0 c.loop-row.from c.in-Some.row c.facts.ensures.store c.loop-row.invariant.0.same c.map.ensures (sym c.in-Some.is ∙ c.in_file.ensures) in
    let r = row_ends c.args.store.now.map c.args.file.0 c.loop-row.from c.in-Some.row n in
    let a = r.0 in
    let b = r.1 in
    let d = r.2 in
    omega (arith, a, b, d)

pub loop-row-preserved : goal.loop-row-preserved
loop-row-preserved g c =
    let n = next_of (g.D.Disk.history c.args.store.now.disk) c.args.store.now c.loop-row.store c.map.result.now.meaning c.args.file.0 c.loop-row.from c.in-Some.row c.facts.ensures.store c.loop-row.invariant.0.same c.map.ensures (sym c.in-Some.is ∙ c.in_file.ensures) in (
      only_then c.args.store.now c.loop-row.store c.is_whole.new.store (g.D.Disk.history c.args.store.now.disk) (g.D.Disk.history c.loop-row.store.disk) (g.D.Disk.history c.is_whole.new.store.disk) c.loop-row.invariant.0 c.is_whole.ensures.only,
      c.is_whole.ensures.unfailed (λ e. ok_apart _ _ (sym c.in_ok-is_whole.was ∙ e)) ∙ c.loop-row.invariant.1,
      subst (λ (many : ℕ). AreSoFar (g.D.Disk.history c.args.store.now.disk) c.args.store.now.map c.args.file.0 (c.in-Some.row.offset + c.in-Some.row.size) many) (elim c.if-not-branch.branch [ then-not-branch w ↦ ap (many_then c.loop-row.damaged) w.if-not-branch.true ∙ sym w.damaged-is | else-not-branch w ↦ ap (many_then c.loop-row.damaged) w.if-not-branch.false ∙ sym w.damaged-is ]) (
          goes_on (g.D.Disk.history c.args.store.now.disk) c.args.store.now.map c.args.file.0 c.loop-row.from c.loop-row.damaged c.in-Some.row c.in_ok-is_whole.field-0 (store_sound (g.D.Disk.history c.args.store.now.disk) c.args.store.now c.facts.ensures.store) n
          (tells_before c.in_ok-is_whole.field-0 (g.D.Disk.history c.args.store.now.disk) (g.D.Disk.history c.loop-row.store.disk) n.own c.args.store.now c.loop-row.store c.loop-row.invariant.0 (c.in_ok-is_whole.ensures.tells n.own n.shown))
          c.loop-row.invariant.2
          ),
      subst (λ (number : ℕ). IsReadOf (g.D.Disk.history c.is_whole.new.store.disk) number c.is_whole.new.window) (ap (λ (r : MapRow). r.file.0) n.shown ∙ n.of_file) c.in_ok-is_whole.ensures.has,
    )

pub returns-clause-found : goal.returns-clause-found
returns-clause-found g c =
    ends (g.D.Disk.history c.args.store.now.disk) c.args.store.now.map c.args.file.0 c.loop-row.from c.loop-row.damaged
    (none_of c.args.store.now c.loop-row.store c.map.result.now.meaning c.args.file.0 c.loop-row.from c.loop-row.invariant.0.same c.map.ensures (sym c.in_default.is ∙ c.in_file.ensures)) c.loop-row.invariant.2
