-- A reference in front of a text, in pieces, and references one after another.
use Rattle.std.specs.Prelude.{◌≡◌, ◌≢◌, ◌<◌, ◌≤◌, ◌^◌, ℕ, List, [], ◌∷◌, ◌++◌, length, flat_map, codes, Option, refl}
use Rattle.std.specs.List.{AllByRecursion}
use Rattle.std.specs.Fmt.{decimal}
use Rattle.std.proofs.Common.{sym, ◌∙◌, ap, arith, append_assoc, append-nil}
use Rattle.std.proofs.lemmas.List.{nil_from_length}
use Rattle.mdbox_base.specs.declared.metadata.LineForm.{LineForm}
use Rattle.mdbox_base.specs.declared.metadata.ExtRef.{ExtRef}
use Rattle.model_storage.proofs.ReferenceLemmas.{number_until, until_same, reference_same}
use Rattle.model_storage.specs.References.{options_text, instance_path, reference_text, references_text, FormFits, ReferenceFits, AreReferences}
use Rattle.dbox_metadata.specs.Instances.{NamesInstance}
use Rattle.dbox_metadata.proofs.OptionLemmas.{options_no_space}

regroup : (start count form path x : List ℕ) →
    (start ++ (codes " " ++ (count ++ (codes " " ++ (form ++ (codes " " ++ path)))))) ++ x ≡ start ++ 32 ∷ (count ++ 32 ∷ (form ++ 32 ∷ (path ++ x)))
regroup start count form path x = simp append_assoc

-- what stands behind the start, the count and the options of a reference
abbrev pub behind_options : ExtRef → List ℕ → List ℕ
behind_options ref x = instance_path ref.hash ref.id ++ x

abbrev pub behind_count : ExtRef → List ℕ → List ℕ
behind_count ref x = options_text ref.form ++ 32 ∷ behind_options ref x

abbrev pub behind_start : ExtRef → List ℕ → List ℕ
behind_start ref x = decimal ref.count ++ 32 ∷ behind_count ref x

pub after_start : (text rest x : List ℕ) (n : ℕ) (ref : ExtRef) → n < 2 ^ 32 → ReferenceFits ref → text ≡ decimal n ++ 32 ∷ rest → text ≡ reference_text ref ++ x → rest ≡ behind_start ref x
after_start text rest x n ref lt fits e h =
    (number_until 32 n ref.start rest (behind_start ref x) refl (omega (arith, lt)) (omega (arith, fits.start))
    (sym e ∙ h ∙ regroup (decimal ref.start) (decimal ref.count) (options_text ref.form) (instance_path ref.hash ref.id) x)).1

pub after_count : (rest more x : List ℕ) (n : ℕ) (ref : ExtRef) → n < 2 ^ 32 → ReferenceFits ref → rest ≡ decimal n ++ 32 ∷ more → rest ≡ behind_start ref x → (n ≡ ref.count) × (more ≡ behind_count ref x)
after_count rest more x n ref lt fits e h =
    number_until 32 n ref.count more (behind_count ref x) refl (omega (arith, lt)) (omega (arith, fits.count)) (sym e ∙ h)

pub after_options : (rest more x : List ℕ) (form : Option LineForm) (ref : ExtRef) → FormFits form → ReferenceFits ref → rest ≡ options_text form ++ 32 ∷ more → rest ≡ behind_count ref x → more ≡ behind_options ref x
after_options rest more x form ref f fits e h =
    (until_same 32 (options_text form) (options_text ref.form) more (behind_options ref x) (options_no_space form f) (options_no_space ref.form fits.form) (sym e ∙ h)).1

pub names_of : (ref : ExtRef) → ReferenceFits ref → NamesInstance ref.hash ref.id
names_of ref fits = record { hash_length = fits.hash_length; hash_octets = fits.hash; id_length = fits.id_length; id_octets = fits.id }

-- references, a space behind each
abbrev pub spaced : List ExtRef → List ℕ
spaced refs = flat_map (λ r. reference_text r ++ 32 ∷ []) refs

-- references behind the first, a space in front of each
abbrev pub others_text : List ExtRef → List ℕ
others_text refs = flat_map (λ r. codes " " ++ reference_text r) refs

others_more : (refs : List ExtRef) (r : ExtRef) → others_text (refs ++ r ∷ []) ≡ 32 ∷ (spaced refs ++ reference_text r)
others_more [] r = ap (λ (o : List ℕ). 32 ∷ o) (append-nil (reference_text r))
others_more (q ∷ refs) r =
    ap (λ (o : List ℕ). 32 ∷ (reference_text q ++ o)) (others_more refs r)
    ∙ ap (λ (o : List ℕ). 32 ∷ o) (sym (append_assoc (reference_text q) (32 ∷ []) (spaced refs ++ reference_text r)) ∙ sym (append_assoc (reference_text q ++ 32 ∷ []) (spaced refs) (reference_text r)))

-- with one more reference at the end they are a whole text
pub whole_text : (refs : List ExtRef) (r : ExtRef) → spaced refs ++ reference_text r ≡ references_text (refs ++ r ∷ [])
whole_text [] r = sym (append-nil (reference_text r))
whole_text (q ∷ refs) r =
    append_assoc (reference_text q ++ 32 ∷ []) (spaced refs) (reference_text r) ∙ append_assoc (reference_text q) (32 ∷ []) (spaced refs ++ reference_text r)
    ∙ ap (λ (o : List ℕ). reference_text q ++ o) (sym (others_more refs r))

pub spaced_more : (refs : List ExtRef) (r : ExtRef) (x : List ℕ) → spaced (refs ++ r ∷ []) ++ x ≡ spaced refs ++ (reference_text r ++ 32 ∷ x)
spaced_more [] r x = ap (λ (o : List ℕ). o ++ x) (append-nil (reference_text r ++ 32 ∷ [])) ∙ append_assoc (reference_text r) (32 ∷ []) x
spaced_more (q ∷ refs) r x =
    append_assoc (reference_text q ++ 32 ∷ []) (spaced (refs ++ r ∷ [])) x ∙ ap (λ (o : List ℕ). (reference_text q ++ 32 ∷ []) ++ o) (spaced_more refs r x)
    ∙ sym (append_assoc (reference_text q ++ 32 ∷ []) (spaced refs) (reference_text r ++ 32 ∷ x))

pub fit_more : (refs : List ExtRef) (r : ExtRef) → AllByRecursion ReferenceFits refs → ReferenceFits r → AllByRecursion ReferenceFits (refs ++ r ∷ [])
fit_more [] r h f = (f, tt)
fit_more (q ∷ refs) r h f = (h.0, fit_more refs r h.1 f)

pub some_more : (refs : List ExtRef) (r : ExtRef) → 1 ≤ length (refs ++ r ∷ [])
some_more [] r = omega arith
some_more (q ∷ refs) r = omega arith

-- references that the rest of a text begins with, and what follows them
pub record Remaining (rest : List ℕ) : Type 0 where
  pub first : ExtRef
  pub others : List ExtRef
  pub first_fits : ReferenceFits first
  pub spelled : rest ≡ reference_text first ++ others_text others

abbrev tail_of : List ℕ → List ℕ
tail_of [] = []
tail_of (x ∷ xs) = xs

behind_first : (refs all : List ExtRef) (rest : List ℕ) (a q : ExtRef) → ReferenceFits a → ReferenceFits q → references_text (a ∷ all) ≡ spaced (q ∷ refs) ++ rest → others_text all ≡ 32 ∷ (spaced refs ++ rest)
behind_first refs all rest a q fa fq e =
    (reference_same (others_text all) (32 ∷ (spaced refs ++ rest)) a q fa fq
    (e ∙ append_assoc (reference_text q ++ 32 ∷ []) (spaced refs) rest ∙ append_assoc (reference_text q) (32 ∷ []) (spaced refs ++ rest))).1

-- what a text spells behind the references that were read
pub remaining : (refs all : List ExtRef) (rest : List ℕ) → AllByRecursion ReferenceFits refs → AllByRecursion ReferenceFits all → 1 ≤ length all → references_text all ≡ spaced refs ++ rest → Remaining rest
remaining refs [] rest f g some e = absurd (omega (arith, some))
remaining [] (a ∷ all) rest f g some e = record { first = a; others = all; first_fits = g.0; spelled = sym e }
remaining (q ∷ refs) (a ∷ []) rest f g some e = absurd (let h : [] ≡ 32 ∷ (spaced refs ++ rest) = behind_first refs [] rest a q g.0 f.0 e in cc h)
remaining (q ∷ refs) (a ∷ b ∷ all) rest f g some e =
    let t : reference_text b ++ others_text all ≡ spaced refs ++ rest = ap tail_of (behind_first refs (b ∷ all) rest a q g.0 f.0 e) in
    remaining refs (b ∷ all) rest f.1 g.1 (omega arith) t

pub remains : (value rest : List ℕ) (refs all : List ExtRef) → AllByRecursion ReferenceFits refs → value ≡ spaced refs ++ rest → AreReferences value all → Remaining rest
remains value rest refs all f e are = remaining refs all rest f are.fit are.some (sym are.spelled ∙ e)

-- no text is spelled that goes on with an octet other than a space
pub no_other_mark : (value rest behind : List ℕ) (refs all : List ExtRef) (r : ExtRef) → AllByRecursion ReferenceFits refs → value ≡ spaced refs ++ rest → ReferenceFits r → rest ≡ reference_text r ++ behind →
    behind ≢ [] → ((x : List ℕ) → behind ≢ codes " " ++ x) → AreReferences value all → ⊥
no_other_mark value rest behind refs all r f e fits is some other are =
    let k = remains value rest refs all f e are in
    let s = reference_same behind (others_text k.others) r k.first fits k.first_fits (sym is ∙ k.spelled) in
    by_others k.others s.1
  where
    by_others : (others : List ExtRef) → behind ≡ others_text others → ⊥
    by_others [] e = some e
    by_others (b ∷ others) e = other (reference_text b ++ others_text others) e

-- references that were read to the end of a text
pub are_read : (value rest behind : List ℕ) (refs : List ExtRef) (r : ExtRef) → AllByRecursion ReferenceFits refs → value ≡ spaced refs ++ rest → ReferenceFits r → rest ≡ reference_text r ++ behind → length behind ≡ 0 → AreReferences value (refs ++ r ∷ [])
are_read value rest behind refs r f e fits is empty =
    let nothing : behind ≡ [] = nil_from_length behind empty in
    let last : rest ≡ reference_text r = is ∙ rw nothing (append-nil (reference_text r)) in
    record {
      some = some_more refs r;
      fit = fit_more refs r f fits;
      spelled = e ∙ rw last (whole_text refs r);
    }

-- a text spells more references than were read before its end
pub more_than : (refs all : List ExtRef) (rest : List ℕ) → AllByRecursion ReferenceFits refs → AllByRecursion ReferenceFits all → 1 ≤ length all → references_text all ≡ spaced refs ++ rest → length refs < length all
more_than refs [] rest f g some e = absurd (omega (arith, some))
more_than [] (a ∷ all) rest f g some e = omega arith
more_than (q ∷ refs) (a ∷ []) rest f g some e = absurd (let h : [] ≡ 32 ∷ (spaced refs ++ rest) = behind_first refs [] rest a q g.0 f.0 e in cc h)
more_than (q ∷ refs) (a ∷ b ∷ all) rest f g some e =
    let t : reference_text b ++ others_text all ≡ spaced refs ++ rest = ap tail_of (behind_first refs (b ∷ all) rest a q g.0 f.0 e) in
    let h = more_than refs (b ∷ all) rest f.1 g.1 (omega arith) t in
    omega (arith, h)
