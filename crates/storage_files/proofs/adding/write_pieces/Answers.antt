use Rattle.std.proofs.Common.{◌≡◌, ◌++◌, sym, ◌∙◌, take-append-drop, ℕ, List, refl}
use Rattle.storage_files.proofs.AddingLemmas.{piece_added}
use Rattle.storage_files.proofs.adding.write_pieces.Goals as goal

pub loop-rest-preserved : goal.loop-rest-preserved
loop-rest-preserved g c =
    let s = c.split_at.ensures in
    let rest : List ℕ = c.loop-rest.rest.now in
    let n : ℕ = c.min.result in
    let cut : rest ≡ c.split_at.result.0.now ++ c.split_at.result.1.now = sym (rw (s.front, s.back) (take-append-drop n rest)) in
    record {
      added = piece_added c.args.name c.args.at c.args.octets.now _ _ _ rest c.split_at.result.0.now _ _ _ c.loop-rest.invariant.added cut refl c.in_ok-write_next.ensures.added;
      unfailed = c.in_ok-write_next.ensures.unfailed ∙ c.loop-rest.invariant.unfailed;
    }
