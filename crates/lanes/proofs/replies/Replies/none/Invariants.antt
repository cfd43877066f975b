use Rattle.std.proofs.Common.{◌≡◌, None, map, replicate, length, vec_len}
use Rattle.lanes.proofs.replies.Replies.none.Given as goal

abbrev pub invariant-loop : goal.invariant-loop
invariant-loop l = (map (λ one. one.value) l.given.items ≡ replicate l.counter None) × (l.kept.items ≡ replicate l.counter None) × (vec_len l.kept ≡ length l.kept.items) × (vec_len l.given ≡ length l.given.items)
