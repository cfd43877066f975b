-- A message without detachable parts is prepared as it is.
use Rattle.std.specs.Prelude.{◌≡◌, Bool, true, false, ◌||◌, cond, ℕ, List, [], ◌∷◌, filter, refl, All, length, map, Option, Some, None}
use Rattle.std.specs.List.{list_any}
use Rattle.std.proofs.Common.{sym, subst}
use Rattle.std.proofs.lemmas.List.Elements.{All-nil}
use Rattle.model_attach.specs.Detached.{AreCut}
use Rattle.model_attach.specs.VirtualSize.{virtual_size}
use Rattle.model_mime.specs.Parts.{parts_in}
use Rattle.model_mime.specs.declared.mime.Part.{Part}
use Rattle.attach_detach.specs.Prepared.{HasHash, IsPlain, IsPrepared, IsTakenApart, piece_of}
use Rattle.attach_detach.specs.declared.message.Detached.{Detached}
use Rattle.attach_detach.specs.declared.message.Prepared.{Prepared}

-- where no element passes a test, none is kept
by_test : {X : Type 0} (p : X → Bool) (x : X) (xs : List X) (b : Bool) → (list_any p xs ≡ false → filter p xs ≡ []) → (b || list_any p xs) ≡ false → cond b (x ∷ filter p xs) (filter p xs) ≡ []
by_test p x xs true rest h = absurd (cc h)
by_test p x xs false rest h = rest h

pub none_kept : {X : Type 0} (p : X → Bool) (xs : List X) → list_any p xs ≡ false → filter p xs ≡ []
none_kept p [] h = refl
none_kept p (x ∷ xs) h = by_test p x xs (p x) (none_kept p xs) h

pub plain_prepared : (message : List ℕ) (p : Prepared) → IsPlain message p → filter (λ part. part.detachable) (parts_in message) ≡ [] → IsPrepared message p
plain_prepared message p plain none = record {
  detached = subst (λ (parts : List Part). AreCut message 0 parts (map piece_of p.parts) p.body) (sym none) (subst (λ (parts : List Detached). AreCut message 0 [] (map piece_of parts) p.body) (sym plain.parts) plain.body);
  hashes = subst (λ (parts : List Detached). All HasHash parts) (sym plain.parts) (All-nil HasHash);
  whole = plain.whole;
  virtual = plain.virtual;
}

-- a message that was taken apart has a prepared form
abbrev plain_form : List ℕ → Prepared
plain_form message = record { body = message; parts = []; whole = length message; virtual_size = virtual_size message }

pub taken_apart : (message : List ℕ) (found : Option Prepared) → IsTakenApart message found → (prepared : Prepared) × IsPrepared message prepared
taken_apart message (Some prepared) is = (prepared, is)
taken_apart message None none = (plain_form message, plain_prepared message (plain_form message) (record { body = refl; parts = refl; whole = refl; virtual = refl }) none)
