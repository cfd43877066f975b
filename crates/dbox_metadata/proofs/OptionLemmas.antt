-- The options of a reference.
use Rattle.std.specs.Prelude.{◌≡◌, ◌≢◌, ◌<◌, ◌^◌, ℕ, Bool, true, false, List, [], ◌∷◌, ◌++◌, length, codes, IsTrue, Option, Some, None, if◌then◌else◌, refl}
use Rattle.std.specs.List.{list_all}
use Rattle.std.specs.Fmt.{decimal}
use Rattle.std.proofs.Common.{sym, ◌∙◌, ap, subst, arith, append-nil, length-append}
use Rattle.mdbox_base.specs.Words.{is_other_than}
use Rattle.mdbox_base.specs.declared.metadata.LineForm.{LineForm}
use Rattle.model_base64.specs.Base64Text.{IsForm}
use Rattle.model_octets.proofs.PiecesLemmas.{split_same}
use Rattle.model_storage.proofs.ReferenceLemmas.{is_digit, decimal_digits, others, all_last, all_more}
use Rattle.model_storage.specs.References.{options_text, FormFits}
use Rattle.dbox_metadata.specs.Options.{lines_text}

before_end : (x y end : List ℕ) → x ++ end ≡ y ++ end → x ≡ y
before_end x y end e =
    let same : length x ≡ length y = omega (arith, ap length e, length-append x end, length-append y end) in
    (split_same x y end end same e).0

-- digits don't end with `C`
no_end : (n : ℕ) (x : List ℕ) → n < 2 ^ 64 → decimal n ≢ x ++ 67 ∷ []
no_end n x lt e =
    let d : IsTrue (list_all is_digit (x ++ 67 ∷ [])) = subst (λ (o : List ℕ). IsTrue (list_all is_digit o)) e (decimal_digits n lt) in
    let z : IsTrue (is_digit 67) = all_last is_digit x 67 d in
    cc z

-- where the text ends with `C`, it is that of a form with CRLF
pub with_mark : (text x : List ℕ) (form : LineForm) → IsForm form → text ≡ x ++ codes "C" → text ≡ lines_text form → (form.crlf ≡ true) × (x ≡ decimal form.length)
with_mark text x form fits at e = by_crlf form.crlf refl
  where
    by_crlf : (b : Bool) → form.crlf ≡ b → (form.crlf ≡ true) × (x ≡ decimal form.length)
    by_crlf true is = (is, before_end x (decimal form.length) (67 ∷ []) (sym at ∙ e ∙ rw is refl))
    by_crlf false is = absurd (no_end form.length x (omega (arith, fits.most)) (sym (append-nil _) ∙ sym (rw is at e) ∙ at))

-- a form by its parts
pub lines_made : (text x : List ℕ) (form : LineForm) (crlf : Bool) → form.crlf ≡ crlf → x ≡ decimal form.length → text ≡ x ++ (if crlf then codes "C" else codes "") → text ≡ lines_text form
lines_made text x form crlf c n e = rw (c, ← n) e

no_space_mark : (ds : List ℕ) (crlf : Bool) → IsTrue (list_all (is_other_than 32) ds) → IsTrue (list_all (is_other_than 32) (ds ++ (if crlf then codes "C" else codes "")))
no_space_mark ds true h = all_more (is_other_than 32) ds 67 h refl
no_space_mark ds false h = rw (append-nil ds) h

-- options have no space
pub options_no_space : (a : Option LineForm) → FormFits a → IsTrue (list_all (is_other_than 32) (options_text a))
options_no_space None p = refl
options_no_space (Some f) p = no_space_mark (decimal f.length) f.crlf (others 32 (decimal f.length) refl (decimal_digits f.length (omega (arith, p.most))))
