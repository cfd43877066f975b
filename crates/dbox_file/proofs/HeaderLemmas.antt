-- The fields of a header line, one after another.
use Rattle.std.specs.Prelude.{◌≡◌, ◌≤◌, ◌<◌, ◌+◌, ◌==◌, ℕ, suc, Bool, true, false, Option, Some, None, List, [], ◌∷◌, ◌++◌, length, take, drop, min, slice_index, get_or, IfNone, flat_map, IsTrue, refl, ◌⊎◌}
use Rattle.std.specs.List.{AllByRecursion, list_all}
use Rattle.std.proofs.Common.{sym, ◌∙◌, ap, subst, inl, inr, append_assoc, length-append, arith}
use Rattle.std.proofs.Math.Seq.{drop-cons}
use Rattle.std.proofs.lemmas.Bool.{eqb-true}
use Rattle.std.proofs.lemmas.Bool.Decides.{nat_tests}
use Rattle.std.proofs.lemmas.Grind.{common_steps}
use Rattle.std.proofs.lemmas.List.{take-append-drop}
use Rattle.mdbox_base.specs.Numbers.{IsHex}
use Rattle.model_storage.proofs.FileLemmas.{run_same, line_of, first, second}
use Rattle.model_storage.specs.Grammars.{RunEnds}
use Rattle.model_storage.specs.StorageFile.{Line, IsField, field_text, values_of, is_letter, is_letter_or_digit, is_no_end, IsHeaderLine}
use Rattle.dbox_file.specs.HeaderFields.{TimeFits, CanEnd, Completes, IsNextField, HasHeaderLine}
use Rattle.dbox_file.proofs.RowLemmas.{longer_value, none_before}
use Rattle.dbox_file.proofs.RunLemmas.{all_joined}

field_joined : (f : Line) (x : List ℕ) → field_text f ++ x ≡ 32 ∷ f.key ∷ (f.value ++ x)
field_joined f x = refl

fields_ends : (fs : List Line) → RunEnds is_letter_or_digit (flat_map field_text fs)
fields_ends [] = tt
fields_ends (f ∷ fs) = refl

-- fields that begin with a field are that one and others
pub fields_split : (f : Line) (fs : List Line) (text behind : List ℕ) → IsNextField text f behind → AllByRecursion IsField fs → text ≡ flat_map field_text fs
    → (gs : List Line) × (fs ≡ f ∷ gs) × (behind ≡ flat_map field_text gs)
fields_split f [] text behind p ps e = absurd (let h : 32 ∷ f.key ∷ (f.value ++ behind) ≡ [] = sym p.spelled ∙ e in cc h)
fields_split f (g ∷ gs) text behind p ps e =
    let h : 32 ∷ f.key ∷ (f.value ++ behind) ≡ 32 ∷ g.key ∷ (g.value ++ flat_map field_text gs) = sym p.spelled ∙ e in
    let k : f.key ≡ g.key = cc in
    let t : f.value ++ behind ≡ g.value ++ flat_map field_text gs = cc in
    let v = run_same is_letter_or_digit f.value g.value behind (flat_map field_text gs) p.fits.value ps.0.value p.ends (fields_ends gs) t in
    (gs, ap (λ (l : Line). l ∷ gs) (sym (line_of f g k v.0)), v.1)

-- one field more, forwards and backwards
pub more_completes : (f : Line) (text behind : List ℕ) (s r : Option ℕ) (t u : Bool) (n : ℕ) → IsNextField text f behind
    → ((fields : List Line) (m : ℕ) → CanEnd r u fields m → CanEnd s t (f ∷ fields) m) → Completes r u behind n → Completes s t text n
more_completes f text behind s r t u n p up q =
    (f ∷ q.0, p.spelled ∙ ap (λ (o : List ℕ). field_text f ++ o) q.1, up q.0 n q.2)

pub fewer_completes : (f : Line) (text behind : List ℕ) (s r : Option ℕ) (t u : Bool) (n : ℕ) → IsNextField text f behind
    → ((fields : List Line) (m : ℕ) → CanEnd s t (f ∷ fields) m → CanEnd r u fields m) → Completes s t text n → Completes r u behind n
fewer_completes f text behind s r t u n p down q =
    let c = fields_split f q.0 text behind p q.2.each q.1 in
    (c.0, c.2, down c.0 n (subst (λ (fs : List Line). CanEnd s t fs n) c.1 q.2))

-- a field that can't stand here
pub no_completion : (f : Line) (text behind : List ℕ) (s : Option ℕ) (t : Bool) (n : ℕ) → IsNextField text f behind
    → ((fields : List Line) (m : ℕ) → CanEnd s t (f ∷ fields) m → ⊥) → Completes s t text n → ⊥
no_completion f text behind s t n p bad q =
    let c = fields_split f q.0 text behind p q.2.each q.1 in
    bad c.0 n (subst (λ (fs : List Line). CanEnd s t fs n) c.1 q.2)

-- the end of the fields
pub end_completes : (n : ℕ) (t : Bool) (text : List ℕ) → text ≡ [] → Completes (Some n) t text n
end_completes n false text e = ([], e, record { each = tt; size_is = (refl, refl); time_fits = inl refl })
end_completes n true text e = ([], e, record { each = tt; size_is = (refl, refl); time_fits = refl })

no_fields : (fs : List Line) → [] ≡ flat_map field_text fs → fs ≡ []
no_fields [] e = refl
no_fields (f ∷ fs) e = absurd (cc e)

at_end : (s : Option ℕ) (fs : List Line) (t : Bool) (n : ℕ) → fs ≡ [] → CanEnd s t fs n → s ≡ Some n
at_end None fs t n e p = absurd (let h = p.size_is.1 in let k : values_of 77 fs ≡ [] = ap (values_of 77) e in cc (h, k))
at_end (Some m) fs t n e p = let h = p.size_is.1 in cc h

pub end_told : (s : Option ℕ) (t : Bool) (text : List ℕ) (n : ℕ) → text ≡ [] → Completes s t text n → s ≡ Some n
end_told s t text n e q = at_end s q.0 t n (no_fields q.0 (sym e ∙ q.1)) q.2

-- Letters and digits are no LF, so a header line ends at the first one.
no_lf : (c : ℕ) → IsTrue (is_letter_or_digit c) → IsTrue (is_no_end c)
no_lf c h = grind (arith, common_steps, nat_tests)

no_lfs : (v : List ℕ) → IsTrue (list_all is_letter_or_digit v) → IsTrue (list_all is_no_end v)
no_lfs [] h = refl
no_lfs (c ∷ v) h = rw (no_lf c (first (is_letter_or_digit c) (list_all is_letter_or_digit v) h)) (no_lfs v (second (is_letter_or_digit c) (list_all is_letter_or_digit v) h))

letter_or_digit : (c : ℕ) → IsTrue (is_letter c) → IsTrue (is_letter_or_digit c)
letter_or_digit c h = rw h refl

fields_no_end : (fs : List Line) → AllByRecursion IsField fs → IsTrue (list_all is_no_end (flat_map field_text fs))
fields_no_end [] p = refl
fields_no_end (f ∷ fs) p =
    rw (no_lf f.key (letter_or_digit f.key p.0.letter)) (all_joined is_no_end f.value (flat_map field_text fs) (no_lfs f.value p.0.value) (fields_no_end fs p.1))

-- a text without a space in front has no fields
pub no_space : (fs : List Line) (text : List ℕ) → 0 < length text → ((r : List ℕ) → text ≡ (32 ∷ []) ++ r → ⊥) → text ≡ flat_map field_text fs → ⊥
no_space [] text h none e = omega (arith, h, ap length e)
no_space (f ∷ fs) text h none e = none (f.key ∷ (f.value ++ flat_map field_text fs)) e

-- nor has a space alone
pub no_key : (fs : List Line) (text : List ℕ) → text ≡ 32 ∷ [] → text ≡ flat_map field_text fs → ⊥
no_key [] text et e = absurd (cc (et, e))
no_key (f ∷ fs) text et e = let h : 32 ∷ [] ≡ 32 ∷ f.key ∷ (f.value ++ flat_map field_text fs) = sym et ∙ e in cc h

-- nor a space before what is no letter
pub not_letter : (k : ℕ) (fs : List Line) (text rest : List ℕ) → text ≡ 32 ∷ k ∷ rest → is_letter k ≡ false → AllByRecursion IsField fs → text ≡ flat_map field_text fs → ⊥
not_letter k [] text rest et h ps e = absurd (cc (et, e))
not_letter k (f ∷ fs) text rest et h ps e =
    let w : 32 ∷ k ∷ rest ≡ 32 ∷ f.key ∷ (f.value ++ flat_map field_text fs) = sym et ∙ e in
    let same : f.key ≡ k = cc w in
    let yes : is_letter f.key ≡ true = ps.0.letter in
    let other : is_letter f.key ≡ false = ap is_letter same ∙ h in
    cc (yes, other)

-- at the end of the fields, where no size was told, nothing completes them
pub told_none : (s : Option ℕ) (t : Bool) (text rest : List ℕ) → rest ≡ [] → ((n : ℕ) → Completes None false text n → Completes s t rest n) → IfNone s ((n : ℕ) → Completes None false text n → ⊥)
told_none (Some m) t text rest e down = tt
told_none None t text rest e down = λ n q. let h = end_told None t rest n e (down n q) in cc h

-- a header line without its `2` and its LF
pub record IsCut (file fields behind : List ℕ) (n : ℕ) : Type 0 where
  pub whole : file ≡ (50 ∷ fields) ++ 10 ∷ behind
  pub no_end : IsTrue (list_all is_no_end (50 ∷ fields))
  pub short : length fields + 2 ≤ 512
  pub complete : Completes None false fields n

time_of : (values : List (List ℕ)) → ((values ≡ []) ⊎ ((n : ℕ) × ((digits : List ℕ) × (values ≡ digits ∷ []) × IsHex 16 digits n))) → TimeFits false values
time_of values (inl e) = inl e
time_of values (inr p) = inr (p.0, p.1.0, p.1.1, p.1.2)

of_time : (values : List (List ℕ)) → TimeFits false values → (values ≡ []) ⊎ ((n : ℕ) × ((digits : List ℕ) × (values ≡ digits ∷ []) × IsHex 16 digits n))
of_time values (inl e) = inl e
of_time values (inr p) = inr (p.0, (p.1, p.2, p.3))

pub header_cut : (file header behind : List ℕ) (n : ℕ) → file ≡ header ++ behind → IsHeaderLine header n → (fields : List ℕ) × IsCut file fields behind n
header_cut file header behind n e p = (
  flat_map field_text p.fields,
  record {
    whole = e ∙ ap (λ (o : List ℕ). o ++ behind) p.spelled ∙ ap (λ (o : List ℕ). 50 ∷ o) (append_assoc (flat_map field_text p.fields) (10 ∷ []) behind);
    no_end = fields_no_end p.fields p.each;
    short = omega (arith, p.short, ap length p.spelled, length-append (flat_map field_text p.fields) (10 ∷ []));
    complete = (p.fields, refl, record { each = p.each; size_is = p.size; time_fits = time_of (values_of 67 p.fields) p.time });
  },
)

pub cut_header : (file fields behind : List ℕ) (n size : ℕ) → file ≡ (50 ∷ fields) ++ 10 ∷ behind → length fields + 2 ≡ size → size ≤ 512 → Completes None false fields n → HasHeaderLine file size n
cut_header file fields behind n size e es short q = (
  50 ∷ (fields ++ 10 ∷ []),
  behind,
  e ∙ ap (λ (o : List ℕ). 50 ∷ o) (sym (append_assoc fields (10 ∷ []) behind)),
  record {
    fields = q.0;
    spelled = ap (λ (o : List ℕ). 50 ∷ (o ++ 10 ∷ [])) q.1;
    each = q.2.each;
    short = omega (arith, es, short, length-append fields (10 ∷ []));
    size = q.2.size_is;
    time = of_time (values_of 67 q.0) q.2.time_fits;
  },
  omega (arith, es, length-append fields (10 ∷ [])),
)

-- a text up to its first LF
pub record IsLineOf (file line behind : List ℕ) : Type 0 where
  pub whole : file ≡ line ++ 10 ∷ behind
  pub no_end : IsTrue (list_all is_no_end line)

pub line_is_cut : (file line behind fields more : List ℕ) (n : ℕ) → IsLineOf file line behind → IsCut file fields more n → line ≡ 50 ∷ fields
line_is_cut file line behind fields more n p q = (run_same is_no_end line (50 ∷ fields) (10 ∷ behind) (10 ∷ more) p.no_end q.no_end refl refl (sym p.whole ∙ q.whole)).0

-- the first LF of a text's front
pub first_line : (file window more : List ℕ) (n : ℕ) → file ≡ window ++ more → n < length window → (slice_index window n == 10) ≡ true → ((j : ℕ) → 0 ≤ j → j < n → (slice_index window j == 10) ≡ true → ⊥)
    → IsLineOf file (take n window) (drop (n + 1) window ++ more)
first_line file window more n e h mark before =
    let at : get_or window n 0 ≡ 10 = eqb-true (get_or window n 0) 10 mark in
    let cut : window ≡ take n window ++ 10 ∷ drop (suc n) window =
    sym (take-append-drop n window) ∙ ap (λ (o : List ℕ). take n window ++ o) (drop-cons window n 0 h ∙ ap (λ (x : ℕ). x ∷ drop (suc n) window) at) in
    let next : suc n ≡ n + 1 = omega arith in
    record {
      whole = e ∙ ap (λ (o : List ℕ). o ++ more) (cut ∙ ap (λ (k : ℕ). take n window ++ 10 ∷ drop k window) next) ∙ append_assoc (take n window) (10 ∷ drop (n + 1) window) more;
      no_end = none_before window n (λ j l. before j (omega arith) l);
    }

-- a front without LF, as long as a header line may be or as long as the text
pub no_line : (file window more fields behind : List ℕ) (n : ℕ) → file ≡ window ++ more → length window ≡ min (length file) 512 → IsTrue (list_all is_no_end window) → IsCut file fields behind n → ⊥
no_line file window more fields behind n e size none q =
    let h = longer_value window more (50 ∷ fields) behind none (sym e ∙ q.whole) in
    omega (arith, h, size, q.short, ap length q.whole, length-append (50 ∷ fields) (10 ∷ behind))
