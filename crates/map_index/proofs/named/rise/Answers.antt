use Rattle.map_index.proofs.Common.{◌≡◌, ◌<◌, ◌≤◌, ◌+◌, ◌-◌, ℕ, subst, arith, length, map, get_or}
use Rattle.std.proofs.lemmas.List.{length-map}
use Rattle.map_index.proofs.RisingLemmas.{number_of, rises_more}
use Rattle.map_index.proofs.named.rise.Goals as goal

pub returns-then-high-low : goal.returns-then-high-low
returns-then-high-low g c =
    let within : c.loop-place.place < length c.args.items.now = omega arith in
    let before : c.loop-place.place - 1 < length c.args.items.now = omega arith in
    let some : 1 ≤ c.loop-place.place = omega arith in
    let low = number_of g.T.NamesRecord.uid_of c.args.items.now (c.loop-place.place - 1) c.index-items-place.result before c.index-items-place.is in
    let high = number_of g.T.NamesRecord.uid_of c.args.items.now c.loop-place.place c.index-items-place-in-loop-place.result within c.index-items-place-in-loop-place.is in
    let a = c.uid-low.ensures in
    let b = c.uid-high.ensures in
    let size = length-map c.args.items.now g.T.NamesRecord.uid_of in
    let at : c.loop-place.place - 1 + 1 ≡ c.loop-place.place = omega (arith, some) in (
      (λ h. absurd (cc h)),
      (λ h.
          let rises = h (c.loop-place.place - 1) (omega (arith, size, within, at)) in
          let here : get_or (map g.T.NamesRecord.uid_of c.args.items.now) (c.loop-place.place - 1) 0 < get_or (map g.T.NamesRecord.uid_of c.args.items.now) c.loop-place.place 0 = subst (λ (k : ℕ). get_or (map g.T.NamesRecord.uid_of c.args.items.now) (c.loop-place.place - 1) 0 < get_or (map g.T.NamesRecord.uid_of c.args.items.now) k 0) at rises in
          absurd (let t = c.if-high-low.true in omega (arith, here, low, high, a, b, t))),
    )

pub loop-place-preserved : goal.loop-place-preserved
loop-place-preserved g c =
    let within : c.loop-place.place < length c.args.items.now = omega arith in
    let before : c.loop-place.place - 1 < length c.args.items.now = omega arith in
    let some : 1 ≤ c.loop-place.place = omega arith in
    let low = number_of g.T.NamesRecord.uid_of c.args.items.now (c.loop-place.place - 1) c.index-items-place.result before c.index-items-place.is in
    let high = number_of g.T.NamesRecord.uid_of c.args.items.now c.loop-place.place c.index-items-place-in-loop-place.result within c.index-items-place-in-loop-place.is in
    let a = c.uid-low.ensures in
    let b = c.uid-high.ensures in
    let t = c.if-high-low.false in
    rises_more (map g.T.NamesRecord.uid_of c.args.items.now) c.loop-place.place some c.loop-place.invariant (omega (arith, low, high, a, b, t))
