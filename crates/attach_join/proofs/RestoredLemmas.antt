-- The references of a detached form are as rejoining asks.
use Rattle.std.proofs.Common.{refl, ◌≡◌, ◌<◌, ◌≤◌, ℕ, zero, suc, Bool, true, false, List, [], ◌∷◌, length, get_or, ◌∙◌, ap, arith, Some, None, inl, inr, ◌⊎◌}
use Rattle.std.specs.Prelude.{All, IfSome, Option, filter, filter_map, nat_lt, ◌||◌}
use Rattle.std.specs.List.{list_any}
use Rattle.std.proofs.lemmas.Bool.Decides.{nat_tests}
use Rattle.mdbox_base.specs.declared.metadata.LineForm.{LineForm}
use Rattle.mdbox_base.specs.declared.metadata.ExtRef.{ExtRef}
use Rattle.model_mime.specs.declared.mime.Coding.{Coding}
use Rattle.model_mime.specs.declared.mime.Part.{Part}
use Rattle.model_attach.specs.declared.join_error.JoinError.{JoinError}
use Rattle.model_attach.specs.declared.join_error.JoinError.TheVariants.{NoMemory}
use Rattle.model_mime.specs.Lines.{range}
use Rattle.model_mime.specs.Parts.{Found, is_too_deep, part_found, within_limits, parts_in, found_in, whole_entity}
use Rattle.model_base64.specs.Base64Text.{IsForm}
use Rattle.model_attach.specs.Rejoined.{IsWhole, join_error}
use Rattle.model_attach.proofs.RejoinedLemmas.{whole_accepted, whole_same}
use Rattle.model_attach.specs.Detached.{IsInstance, AreCut, pieces_of, AreDetached}
use Rattle.model_attach.proofs.DetachedLemmas.{whole_of_detached}

form_fits : (coding : Coding) (text : List ℕ) (form : Option LineForm) (octets : List ℕ) → IsInstance coding text form octets → IfSome form IsForm
form_fits coding text None octets h = tt
form_fits coding text (Some form) octets h = h.1.form_fits

forms_cut : (message : List ℕ) (at : ℕ) (ps : List Part) (refs : List ExtRef) (instances : List (List ℕ)) (body : List ℕ) → length refs ≡ length instances → AreCut message at ps (pieces_of refs instances) body
    → (k : ℕ) (d : ExtRef) → k < length refs → IfSome (get_or refs k d).form IsForm
forms_cut message at ps [] instances body one cut k d h = absurd (omega (arith, h))
forms_cut message at ps (ref ∷ refs) [] body one cut k d h = absurd (omega (arith, one))
forms_cut message at [] (ref ∷ refs) (octets ∷ instances) body one cut k d h = absurd cut
forms_cut message at (p ∷ ps) (ref ∷ refs) (octets ∷ instances) body one cut zero d h = form_fits p.coding (range message p.start p.end) ref.form octets cut.4
forms_cut message at (p ∷ ps) (ref ∷ refs) (octets ∷ instances) body one cut (suc k) d h = forms_cut message p.end ps refs instances cut.0 (omega (arith, one)) cut.5 k d (omega (arith, h))

-- its forms are forms
pub forms_of : (message body : List ℕ) (refs : List ExtRef) (instances : List (List ℕ)) → AreDetached message body refs instances → All (λ ref. IfSome ref.form IsForm) refs
forms_of message body refs instances h k d l = forms_cut message 0 (filter (λ p. p.detachable) (parts_in message)) refs instances body h.one_each h.detached k d l

as_many : (message : List ℕ) (at : ℕ) (ps : List Part) (refs : List ExtRef) (instances : List (List ℕ)) (body : List ℕ) → length refs ≡ length instances → AreCut message at ps (pieces_of refs instances) body → length refs ≡ length ps
as_many message at [] [] instances body one cut = refl
as_many message at (p ∷ ps) [] instances body one cut = absurd cut
as_many message at ps (ref ∷ refs) [] body one cut = absurd (omega (arith, one))
as_many message at [] (ref ∷ refs) (octets ∷ instances) body one cut = absurd cut
as_many message at (p ∷ ps) (ref ∷ refs) (octets ∷ instances) body one cut = omega (arith, as_many message p.end ps refs instances cut.0 (omega (arith, one)) cut.5)

either : (b : Bool) → (b ≡ true) ⊎ (b ≡ false)
either true = inl refl
either false = inr refl

fewer : (test : Part → Bool) (ps : List Part) → length (filter test ps) ≤ length ps
fewer test [] = omega arith
fewer test (p ∷ ps) = elim (either (test p)) [ inl e ↦ rw e (omega (arith, fewer test ps)) | inr e ↦ rw e (omega (arith, fewer test ps)) ]

fewer_found : (fs : List Found) → length (filter_map part_found fs) ≤ length fs
fewer_found [] = omega arith
fewer_found (Found.APart p ∷ fs) = omega (arith, fewer_found fs)
fewer_found (Found.TooDeep ∷ fs) = omega (arith, fewer_found fs)

or_false : (x y : Bool) → (x || y) ≡ false → y ≡ false
or_false true y e = absurd (cc)
or_false false y e = e

not_more : (n : ℕ) → nat_lt 10000 n ≡ false → n ≤ 10000
not_more n e = grind (arith, nat_tests)

few_within : (fs : List Found) → length (within_limits fs) ≤ 10000
few_within fs = elim (either (list_any is_too_deep fs || nat_lt 10000 (length fs))) [
  | inl e ↦ rw e (omega arith)
  | inr e ↦ rw e (omega (arith, fewer_found fs, not_more (length fs) (or_false (list_any is_too_deep fs) (nat_lt 10000 (length fs)) e)))
]

few_parts : (message : List ℕ) → length (parts_in message) ≤ 10000
unfolding parts_in
few_parts message = few_within (found_in message 64 (whole_entity message))

-- there are few of them
pub few_of : (message body : List ℕ) (refs : List ExtRef) (instances : List (List ℕ)) → AreDetached message body refs instances → length refs ≤ 10000
few_of message body refs instances h =
    omega (arith, as_many message 0 (filter (λ p. p.detachable) (parts_in message)) refs instances body h.one_each h.detached, fewer (λ p. p.detachable) (parts_in message), few_parts message)

-- nothing is wrong with them
pub right : (message body : List ℕ) (refs : List ExtRef) (instances : List (List ℕ)) (whole : ℕ) → AreDetached message body refs instances → whole ≡ length message → length message ≤ 67108864 → join_error body whole refs instances ≡ None
right message body refs instances whole h size small = ap (λ (n : ℕ). join_error body n refs instances) size ∙ whole_accepted message body refs instances (whole_of_detached message body refs instances h) (omega (arith, small))

-- and what is rejoined is the message
pub is_message : (message body octets : List ℕ) (refs : List ExtRef) (instances : List (List ℕ)) → AreDetached message body refs instances → IsWhole octets body refs instances → octets ≡ message
is_message message body octets refs instances h whole = whole_same 0 octets message body refs instances whole (whole_of_detached message body refs instances h)

pub only_memory : (error : JoinError) (found : Option JoinError) → (error ≡ NoMemory) ⊎ (found ≡ Some error) → found ≡ None → (error ≡ NoMemory → ⊥) → ⊥
only_memory error found (inl e) none other = other e
only_memory error found (inr e) none other = absurd (cc)
