use Rattle.std.proofs.Common.{◌≡◌, ◌+◌, ◌-◌, ◌*◌, ◌++◌, ◌∷◌, [], ℕ, length, take, refl, sym, ◌∙◌, subst, arith}
use Rattle.std.proofs.Math.ListN.{set}
use Rattle.model_logs.specs.LogFile.{opened}
use Rattle.gate_log.specs.Log.{cut_by}
use Rattle.gate_log.proofs.LayoutLemmas.{Laid, laid-fits, laid-more, laid-end, laid-all, put_there}
use Rattle.gate_log.proofs.layout.lay_out.Goals as goal

pub loop-size-preserved : goal.loop-size-preserved
loop-size-preserved c =
    let fits = laid-fits c.args.lengths.now c.args.octets.now c.loop-size.rest.now c.loop-size.buffer c.loop-size.size-index c.loop-size.end _ c.loop-size.invariant c.loop-size-test.true refl in
    let put = put_there c.loop-size.buffer c.put_record.new.buffer _ c.loop-size.end (length c.split_at.result.0.now + 5)
    (omega (arith, fits, c.loop-size.auto.buffer, c.requires.room))
    (omega (arith, fits, c.loop-size.auto.buffer, c.requires.room, c.put_record.auto.buffer, c.split_at.ensures.front_len)) in
    laid-more _ _ _ c.loop-size.buffer _ _ _ c.loop-size.size-index c.loop-size.end _ c.loop-size.invariant c.loop-size-test.true refl c.split_at.ensures.front c.split_at.ensures.back put.0 (put.1 ∙ c.put_record.ensures)

pub returns-clause-laid : goal.returns-clause-laid
returns-clause-laid c =
    let end : c.loop-size.end ≡ length c.args.octets.now + 5 * length c.args.lengths.now =
    laid-end c.args.lengths.now c.args.octets.now c.loop-size.rest.now c.loop-size.buffer c.loop-size.size-index c.loop-size.end c.loop-size.invariant c.loop-size-test.false in
    let one : c.loop-size.end ≡ (c.loop-size.end - 1) + 1 = omega (arith, end, c.requires.some) in
    let laid : Laid c.args.lengths.now c.args.octets.now c.loop-size.rest.now c.loop-size.buffer c.loop-size.size-index ((c.loop-size.end - 1) + 1) =
    subst (λ (n : ℕ). Laid c.args.lengths.now c.args.octets.now c.loop-size.rest.now c.loop-size.buffer c.loop-size.size-index n) one c.loop-size.invariant in
    subst (λ (n : ℕ). 1 ∷ take n (set c.loop-size.buffer (c.loop-size.end - 1) 0) ≡ opened (cut_by c.args.lengths.now c.args.octets.now) ++ 0 ∷ []) (sym one)
    (laid-all c.args.lengths.now c.args.octets.now c.loop-size.rest.now c.loop-size.buffer c.loop-size.size-index (c.loop-size.end - 1) laid c.loop-size-test.false (omega (arith, end, c.requires.some, c.requires.room)))
