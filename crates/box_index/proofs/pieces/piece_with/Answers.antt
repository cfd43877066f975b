use Rattle.std.proofs.Common.{rules}
use Rattle.std.proofs.lemmas.List.Sorted.{IsPartitionPoint-from_clause}
use Rattle.box_index.specs.Pieces.{HeldRows, begins_by}
use Rattle.box_index.proofs.PiecesLemmas.{parted, only-in_some, only-in_none}
use Rattle.box_index.proofs.pieces.piece_with.Goals as goal

pub returns-clause-some : goal.returns-clause-some
returns-clause-some c =
    let rising = c.requires.rising in
    let point = IsPartitionPoint-from_clause (λ (piece : HeldRows). begins_by c.args.uid.0 piece.rows) _ _ c.partition_point-begun.ensures.partitioned (parted rising.0 rising.1 c.args.uid.0 _ c.requires.filled rising.2) (λ a r q k. search rules) in
    only-in_some rising.0 rising.1 c.args.uid.0 c.args.pieces.now c.partition_point-begun.result c.checked_sub.result c.requires.filled rising.2 c.partition_point-begun.ensures.bound point c.checked_sub.ensures

pub returns-clause-none : goal.returns-clause-none
returns-clause-none c =
    let rising = c.requires.rising in
    let point = IsPartitionPoint-from_clause (λ (piece : HeldRows). begins_by c.args.uid.0 piece.rows) _ _ c.partition_point-begun.ensures.partitioned (parted rising.0 rising.1 c.args.uid.0 _ c.requires.filled rising.2) (λ a r q k. search rules) in
    only-in_none rising.0 rising.1 c.args.uid.0 c.args.pieces.now c.partition_point-begun.result c.checked_sub.result c.requires.filled rising.2 point c.checked_sub.ensures
