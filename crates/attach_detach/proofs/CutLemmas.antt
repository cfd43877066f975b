-- Parts cut out one after another.
use Rattle.std.proofs.Common.{refl, ◌≡◌, ◌<◌, ◌≤◌, ◌+◌, ℕ, zero, suc, Bool, true, false, List, [], ◌∷◌, ◌++◌, length, get_or, take, drop, sym, ◌∙◌, ap, subst, arith, append_assoc, append-nil}
use Rattle.std.specs.Prelude.{All, map, filter, not}
use Rattle.std.proofs.Math.Seq.{drop-cons, take-length}
use Rattle.std.proofs.lemmas.List.{length-drop, nil_from_length, map-append}
use Rattle.std.proofs.lemmas.List.Elements.{All-append}
use Rattle.model_mime.specs.declared.mime.Part.{Part}
use Rattle.model_mime.specs.Lines.{range}
use Rattle.model_mime.specs.Parts.{InOrder}
use Rattle.model_attach.specs.Detached.{Piece, AreCut}
use Rattle.model_attach.proofs.DetachedLemmas.{end_in_order}
use Rattle.attach_detach.specs.declared.message.Detached.{Detached}
use Rattle.attach_detach.specs.Prepared.{piece_of, HasHash, IsPieceOf}

abbrev pub detachable : List Part → List Part
detachable leaves = filter (λ part. part.detachable) leaves

-- The detachable leaves before a place are cut out, up to a place of the message.
pub record IsCutTo (message : List ℕ) (leaves : List Part) (i at : ℕ) (parts : List Detached) (body : List ℕ) : Type 0 where
  pub within : i ≤ length leaves
  pub order : InOrder at (length message) (detachable (drop i leaves))
  pub hashes : All HasHash parts
  pub whole : (more : List Piece) (rest : List ℕ) → AreCut message at (detachable (drop i leaves)) more rest → AreCut message 0 (detachable leaves) (map piece_of parts ++ more) (body ++ rest)

pub cut_start : (message : List ℕ) (leaves : List Part) (parts : List Detached) (body : List ℕ) → InOrder 0 (length message) (detachable leaves) → parts ≡ [] → body ≡ [] → IsCutTo message leaves 0 0 parts body
cut_start message leaves parts body order none empty = record {
  within = omega arith;
  order = order;
  hashes = rw none (λ k d h. absurd (omega (arith, h)));
  whole = λ more rest cut. rw (none, empty) cut;
}

pub next_leaf : (leaves : List Part) (i : ℕ) (leaf d : Part) → i < length leaves → leaf ≡ get_or leaves i d → drop i leaves ≡ leaf ∷ drop (i + 1) leaves
next_leaf leaves i leaf d h is = let next : suc i ≡ i + 1 = omega arith in
    drop-cons leaves i d h ∙ ap (λ (y : Part). y ∷ drop (suc i) leaves) (sym is) ∙ ap (λ (k : ℕ). leaf ∷ drop k leaves) next

taken : (leaf : Part) (leaves : List Part) → leaf.detachable ≡ true → detachable (leaf ∷ leaves) ≡ leaf ∷ detachable leaves
taken leaf leaves t = rw t refl

left : (leaf : Part) (leaves : List Part) → leaf.detachable ≡ false → detachable (leaf ∷ leaves) ≡ detachable leaves
left leaf leaves t = rw t refl

here : (leaves : List Part) (i : ℕ) (leaf d : Part) → i < length leaves → leaf ≡ get_or leaves i d → leaf.detachable ≡ true → detachable (drop i leaves) ≡ leaf ∷ detachable (drop (i + 1) leaves)
here leaves i leaf d h is t = ap detachable (next_leaf leaves i leaf d h is) ∙ taken leaf (drop (i + 1) leaves) t

-- a detachable leaf stands in order
pub in_order : (message : List ℕ) (leaves : List Part) (i at : ℕ) (parts : List Detached) (body : List ℕ) (leaf d : Part) → IsCutTo message leaves i at parts body → i < length leaves → leaf ≡ get_or leaves i d → leaf.detachable ≡ true
    → (at ≤ leaf.start) × (leaf.start ≤ leaf.end) × (leaf.end ≤ length message)
in_order message leaves i at parts body leaf d was h is t =
    let order : InOrder at (length message) (leaf ∷ detachable (drop (i + 1) leaves)) = subst (InOrder at (length message)) (here leaves i leaf d h is t) was.order in
    (order.0, order.1, end_in_order leaf.end (length message) (detachable (drop (i + 1) leaves)) order.2)

-- a leaf that isn't detachable stays
pub stays : (message : List ℕ) (leaves : List Part) (i at : ℕ) (parts : List Detached) (body : List ℕ) (leaf d : Part) → IsCutTo message leaves i at parts body → i < length leaves → leaf ≡ get_or leaves i d → leaf.detachable ≡ false
    → IsCutTo message leaves (i + 1) at parts body
stays message leaves i at parts body leaf d was h is t =
    let same : detachable (drop i leaves) ≡ detachable (drop (i + 1) leaves) = ap detachable (next_leaf leaves i leaf d h is) ∙ left leaf (drop (i + 1) leaves) t in
    record {
      within = omega arith;
      order = subst (InOrder at (length message)) same was.order;
      hashes = was.hashes;
      whole = λ more rest cut. was.whole more rest (subst (λ (x : List Part). AreCut message at x more rest) (sym same) cut);
    }

alone : (piece : Detached) → HasHash piece → All HasHash (piece ∷ [])
alone piece h zero d l = h
alone piece h (suc k) d l = absurd (omega (arith, l))

-- a detachable leaf is cut out
pub goes : (message : List ℕ) (leaves : List Part) (i at : ℕ) (parts new : List Detached) (body body' : List ℕ) (leaf d : Part) (piece : Detached) → IsCutTo message leaves i at parts body → i < length leaves → leaf ≡ get_or leaves i d → leaf.detachable ≡ true
    → IsPieceOf message leaf piece → body' ≡ body ++ range message at leaf.start → new ≡ parts ++ piece ∷ [] → IsCutTo message leaves (i + 1) leaf.end new body'
goes message leaves i at parts new body body' leaf d piece was h is t made push added =
    let first : detachable (drop i leaves) ≡ leaf ∷ detachable (drop (i + 1) leaves) = here leaves i leaf d h is t in
    let order : InOrder at (length message) (leaf ∷ detachable (drop (i + 1) leaves)) = subst (InOrder at (length message)) first was.order in
    let pieces : map piece_of new ≡ map piece_of parts ++ piece_of piece ∷ [] = ap (map piece_of) added ∙ map-append piece_of parts (piece ∷ []) in
    record {
      within = omega arith;
      order = order.2;
      hashes = rw added (All-append HasHash parts (piece ∷ []) was.hashes (alone piece made.hash));
      whole = λ more rest cut. rw (pieces, push, append_assoc, append_assoc) (was.whole (piece_of piece ∷ more) (range message at leaf.start ++ rest)
          (subst (λ (x : List Part). AreCut message at x (piece_of piece ∷ more) (range message at leaf.start ++ rest)) (sym first) (rest, refl, made.start, made.count, made.instance, cut)));
    }

-- a test that fails
pub is_detachable : (b : Bool) → not b ≡ false → b ≡ true
is_detachable true h = refl
is_detachable false h = absurd (cc)

pub end_of : (message : List ℕ) (at : ℕ) → range message at (length message) ≡ drop at message
end_of message at = ap (λ (k : ℕ). take k (drop at message)) (sym (length-drop at message)) ∙ take-length (drop at message)

pub at_end : (message : List ℕ) (leaves : List Part) (i at : ℕ) (parts : List Detached) (body : List ℕ) → IsCutTo message leaves i at parts body → at ≤ length message
at_end message leaves i at parts body was = end_in_order at (length message) (detachable (drop i leaves)) was.order

-- the rest of the message is the last
pub cut_end : (message : List ℕ) (leaves : List Part) (i at : ℕ) (parts : List Detached) (body body' : List ℕ) → IsCutTo message leaves i at parts body → length leaves ≤ i
    → body' ≡ body ++ drop at message → AreCut message 0 (detachable leaves) (map piece_of parts) body'
cut_end message leaves i at parts body body' was h push =
    let gone : drop i leaves ≡ [] = nil_from_length (drop i leaves) (omega (arith, length-drop i leaves)) in
    let last : AreCut message at (detachable (drop i leaves)) [] (drop at message) = rw gone refl in
    subst (λ (x : List Piece). AreCut message 0 (detachable leaves) x body') (append-nil (map piece_of parts)) (rw push (was.whole [] (drop at message) last))
