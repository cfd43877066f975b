-- A message has one prepared form.
use Rattle.std.proofs.Common.{refl, ◌≡◌, ℕ, List, [], ◌∷◌, map, All, sym, ◌∙◌, ap}
use Rattle.std.specs.Prelude.{filter}
use Rattle.std.proofs.lemmas.List.Elements.{All-head, All-tail}
use Rattle.sha1.specs.Sha1.{sha1}
use Rattle.model_attach.proofs.DetachedLemmas.{cut_once}
use Rattle.model_attach.specs.Detached.{Piece}
use Rattle.model_mime.specs.Parts.{parts_in}
use Rattle.attach_detach.specs.Prepared.{HasHash, IsPrepared, piece_of}
use Rattle.attach_detach.specs.declared.message.Detached.{Detached}
use Rattle.attach_detach.specs.declared.message.Prepared.{Prepared}

abbrev head_of : Detached → List Piece → Piece
head_of d [] = piece_of d
head_of d (x ∷ xs) = x

abbrev rest_of : List Piece → List Piece
rest_of [] = []
rest_of (x ∷ xs) = xs

attachment_same : (c d : Detached) → piece_of c ≡ piece_of d → HasHash c → HasHash d → c ≡ d
attachment_same c d same hc hd =
    let o = ap (λ (x : Piece). x.octets) same in
    let hash : c.hash ≡ d.hash = hc ∙ (ap (λ (x : List ℕ). record { 0 = sha1 x }) o ∙ sym hd) in
    rw (ap (λ (x : Piece). x.start) same, ap (λ (x : Piece). x.count) same, ap (λ (x : Piece). x.form) same, hash, o) refl

parts_same : (xs ys : List Detached) → map piece_of xs ≡ map piece_of ys → All HasHash xs → All HasHash ys → xs ≡ ys
parts_same [] [] same hx hy = refl
parts_same [] (d ∷ ys) same hx hy = absurd (cc same)
parts_same (c ∷ xs) [] same hx hy = absurd (cc same)
parts_same (c ∷ xs) (d ∷ ys) same hx hy =
    let first = attachment_same c d (ap (head_of c) same) (All-head HasHash c xs hx) (All-head HasHash d ys hy) in
    let rest = parts_same xs ys (ap rest_of same) (All-tail HasHash c xs hx) (All-tail HasHash d ys hy) in
    ap (λ (x : Detached). x ∷ xs) first ∙ ap (λ (x : List Detached). d ∷ x) rest

form_same : (p q : Prepared) → p.body ≡ q.body → p.parts ≡ q.parts → p.whole ≡ q.whole → p.virtual_size ≡ q.virtual_size → p ≡ q
form_same p q a b c d = rw (a, b, c, d) refl

pub prepared_same : (message : List ℕ) (p q : Prepared) → IsPrepared message p → IsPrepared message q → p ≡ q
prepared_same message p q a b =
    let once = cut_once message 0 (filter (λ part. part.detachable) (parts_in message)) (map piece_of p.parts) (map piece_of q.parts) p.body q.body a.detached b.detached in
    form_same p q once.1 (parts_same p.parts q.parts once.0 a.hashes b.hashes) (a.whole ∙ sym b.whole) (a.virtual ∙ sym b.virtual)
