use Rattle.std.proofs.Common.{◌≡◌, ◌++◌, List, ℕ, sym, ap, ◌∙◌, subst, drop}
use Rattle.std.proofs.lemmas.List.{take-append-drop}
use Rattle.scan_pieces.specs.Pieces.{TextGives, empty_header}
use Rattle.scan_pieces.proofs.PieceLemmas.{framed_gives, place_text}
use Rattle.scan_pieces.proofs.part.block_in.Goals as goal

pub returns : goal.returns
returns c =
    let text = c.args.framed.now in
    let framed : text ≡ empty_header ++ drop 30 text = sym (take-append-drop 30 text) ∙ ap (λ (o : List ℕ). o ++ drop 30 text) c.requires in
    framed_gives (drop 30 text) c.message_at.result (subst (λ (o : List ℕ). TextGives o 0 c.message_at.result) framed (place_text text 0 c.message_at.result c.message_at.ensures))
