-- References that name the parts of a prepared message.
use Rattle.std.proofs.Common.{refl, ◌≡◌, ℕ, List, [], ◌∷◌, length, map, sym, ◌∙◌, ap, subst, arith}
use Rattle.mdbox_base.specs.declared.metadata.ExtRef.{ExtRef}
use Rattle.model_attach.specs.Detached.{Piece, IsDetached, pieces_of, AreDetached}
use Rattle.attach_detach.specs.declared.message.Detached.{Detached}
use Rattle.attach_detach.specs.declared.message.Prepared.{Prepared}
use Rattle.attach_detach.specs.Prepared.{piece_of, IsPrepared, NameParts}

abbrev pub octets_of : List Detached → List (List ℕ)
octets_of parts = map (λ d. d.octets) parts

piece_is : (ref : ExtRef) (d : Detached) (rest : List Piece) → ref.start ≡ d.start → ref.count ≡ d.count → ref.form ≡ d.form
    → record { start = ref.start; count = ref.count; form = ref.form; octets = d.octets } ∷ rest ≡ piece_of d ∷ rest
piece_is ref d rest a b c = rw (a, b, c) refl

pub pieces_are : (refs : List ExtRef) (parts : List Detached) → NameParts refs parts → pieces_of refs (octets_of parts) ≡ map piece_of parts
pieces_are [] [] h = refl
pieces_are [] (d ∷ parts) h = absurd h
pieces_are (ref ∷ refs) [] h = absurd h
pieces_are (ref ∷ refs) (d ∷ parts) h = piece_is ref d (pieces_of refs (octets_of parts)) h.0 h.1 h.2 ∙ ap (λ (x : List Piece). piece_of d ∷ x) (pieces_are refs parts h.4)

pub one_each : (refs : List ExtRef) (parts : List Detached) → NameParts refs parts → length refs ≡ length (octets_of parts)
one_each [] [] h = refl
one_each [] (d ∷ parts) h = absurd h
one_each (ref ∷ refs) [] h = absurd h
one_each (ref ∷ refs) (d ∷ parts) h = omega (arith, one_each refs parts h.4)

pub are_detached : (message : List ℕ) (p : Prepared) (refs : List ExtRef) → IsPrepared message p → NameParts refs p.parts → AreDetached message p.body refs (octets_of p.parts)
are_detached message p refs h named = record {
  one_each = one_each refs p.parts named;
  detached = subst (λ (x : List Piece). IsDetached message x p.body) (sym (pieces_are refs p.parts named)) h.detached;
}
