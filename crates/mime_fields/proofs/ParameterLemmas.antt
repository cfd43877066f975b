-- Parameters and the kind, against the definitions.
use Rattle.std.proofs.Common.{refl, ◌≡◌, ◌<◌, ◌≤◌, ◌-◌, ℕ, suc, Bool, true, false, cond, List, [], ◌∷◌, length, sym, ◌∙◌, ap, arith, Option, Some, None, ◌⊎◌, inl, inr}
use Rattle.std.specs.Prelude.{◌==◌, codes}
use Rattle.model_mime.specs.declared.mime.Kind.{Kind}
use Rattle.model_mime.specs.declared.mime.Kind.TheVariants as kinds
use Rattle.model_mime.specs.Fields.{token, behind_blanks, behind, parameter_value, ends_parameter, parameter, is_word, boundary_or, boundary_among, boundary_behind, multipart, kind_by, typed, ◌>>=◌}
use Rattle.mime_fields.specs.declared.held.Held.{Held}
use Rattle.mime_fields.specs.Holding.{held}
use Rattle.mime_fields.specs.Reading.{IsHeld, IsParameter, IsSearching}

-- a parameter, as far as it is read
pub unnamed : (old s1 : List ℕ) → s1 ≡ behind_blanks old → token s1 ≡ None → parameter old ≡ None
unfolding parameter
unnamed old s1 e h = let first : token (behind_blanks old) ≡ None = ap token (sym e) ∙ h in rw first refl

pub no_equals : (old s1 s2 s3 name : List ℕ) → s1 ≡ behind_blanks old → token s1 ≡ Some (name, s2) → s3 ≡ behind_blanks s2 → behind 61 s3 ≡ None → parameter old ≡ None
unfolding parameter
no_equals old s1 s2 s3 name e h f g =
    let first : token (behind_blanks old) ≡ Some (name, s2) = ap token (sym e) ∙ h in
    let second : behind 61 (behind_blanks s2) ≡ None = ap (behind 61) (sym f) ∙ g in
    rw (first, second) refl

pub no_value : (old s1 s2 s3 s4 s5 name : List ℕ) → s1 ≡ behind_blanks old → token s1 ≡ Some (name, s2) → s3 ≡ behind_blanks s2 → behind 61 s3 ≡ Some s4 → s5 ≡ behind_blanks s4
    → parameter_value s5 ≡ None → parameter old ≡ None
unfolding parameter
no_value old s1 s2 s3 s4 s5 name e h f g k v =
    let first : token (behind_blanks old) ≡ Some (name, s2) = ap token (sym e) ∙ h in
    let second : behind 61 (behind_blanks s2) ≡ Some s4 = ap (behind 61) (sym f) ∙ g in
    let third : parameter_value (behind_blanks s4) ≡ None = ap parameter_value (sym k) ∙ v in
    rw (first, second, third) refl

pub no_end : (old s1 s2 s3 s4 s5 s6 s7 name : List ℕ) (value : Held) → s1 ≡ behind_blanks old → token s1 ≡ Some (name, s2) → s3 ≡ behind_blanks s2 → behind 61 s3 ≡ Some s4 → s5 ≡ behind_blanks s4
    → IsHeld parameter_value s5 value s6 → s7 ≡ behind_blanks s6 → ends_parameter s7 ≡ false → parameter old ≡ None
unfolding parameter
no_end old s1 s2 s3 s4 s5 s6 s7 name value e h f g k v l m =
    let first : token (behind_blanks old) ≡ Some (name, s2) = ap token (sym e) ∙ h in
    let second : behind 61 (behind_blanks s2) ≡ Some s4 = ap (behind 61) (sym f) ∙ g in
    let third : parameter_value (behind_blanks s4) ≡ Some (v.text, s6) = ap parameter_value (sym k) ∙ v.gives in
    let fourth : ends_parameter (behind_blanks s6) ≡ false = ap ends_parameter (sym l) ∙ m in
    rw (first, second, third, fourth) refl

pub is_parameter : (old s1 s2 s3 s4 s5 s6 s7 name : List ℕ) (value : Held) → s1 ≡ behind_blanks old → token s1 ≡ Some (name, s2) → s3 ≡ behind_blanks s2 → behind 61 s3 ≡ Some s4 → s5 ≡ behind_blanks s4
    → IsHeld parameter_value s5 value s6 → s7 ≡ behind_blanks s6 → ends_parameter s7 ≡ true → IsParameter old name value s7
unfolding parameter
is_parameter old s1 s2 s3 s4 s5 s6 s7 name value e h f g k v l m =
    let first : token (behind_blanks old) ≡ Some (name, s2) = ap token (sym e) ∙ h in
    let second : behind 61 (behind_blanks s2) ≡ Some s4 = ap (behind 61) (sym f) ∙ g in
    let third : parameter_value (behind_blanks s4) ≡ Some (v.text, s6) = ap parameter_value (sym k) ∙ v.gives in
    let fourth : ends_parameter (behind_blanks s6) ≡ true = ap ends_parameter (sym l) ∙ m in
    record { text = v.text; holds = v.holds; gives = rw (first, second, third, fourth) (ap (λ (x : List ℕ). Some (record { name = name; value = v.text; rest = x })) (sym l)) }

-- the search for the boundary
among : (most : ℕ) (text : List ℕ) → boundary_among (suc most) text ≡ boundary_or (boundary_among most) (parameter text)
unfolding boundary_among
among most text = refl

pub search_begins : (old : List ℕ) → IsSearching old old
search_begins old = record { most = length old; enough = omega arith; same = refl }

pub search_fails : (old here : List ℕ) → IsSearching old here → parameter here ≡ None → boundary_among (suc (length old)) old ≡ None
search_fails old here q e = q.same ∙ among q.most here ∙ ap (boundary_or (boundary_among q.most)) e

found : (most : ℕ) (here name new : List ℕ) (value : Held) → (p : IsParameter here name value new)
    → boundary_among (suc most) here ≡ cond (is_word name (codes "boundary")) (Some p.text) (behind 59 new >>= boundary_among most)
found most here name new value p = among most here ∙ ap (boundary_or (boundary_among most)) p.gives

pub search_ends : (old here name new : List ℕ) (value : Held) → IsSearching old here → IsParameter here name value new → is_word name (codes "boundary") ≡ true
    → (text : List ℕ) × (value ≡ held text) × (boundary_among (suc (length old)) old ≡ Some text)
search_ends old here name new value q p e =
    (p.text, p.holds, q.same ∙ found q.most here name new value p ∙ ap (λ (b : Bool). cond b (Some p.text) (behind 59 new >>= boundary_among q.most)) e)

other_name : (most : ℕ) (here name new : List ℕ) (value : Held) → IsParameter here name value new → is_word name (codes "boundary") ≡ false
    → boundary_among (suc most) here ≡ (behind 59 new >>= boundary_among most)
other_name most here name new value p e = found most here name new value p ∙ ap (λ (b : Bool). cond b (Some p.text) (behind 59 new >>= boundary_among most)) e

pub search_stops : (old here name mid : List ℕ) (value : Held) → IsSearching old here → IsParameter here name value mid → is_word name (codes "boundary") ≡ false → behind 59 mid ≡ None
    → boundary_among (suc (length old)) old ≡ None
search_stops old here name mid value q p e f = q.same ∙ other_name q.most here name mid value p e ∙ ap (λ (o : Option (List ℕ)). o >>= boundary_among q.most) f

pub search_goes_on : (old here name mid new : List ℕ) (value : Held) → IsSearching old here → IsParameter here name value mid → is_word name (codes "boundary") ≡ false → behind 59 mid ≡ Some new
    → length mid ≤ length here → length new < length mid → IsSearching old new
search_goes_on old here name mid new value q p e f less fewer =
    let up : suc (q.most - 1) ≡ q.most = omega (arith, q.enough, less, fewer) in
    record {
      most = q.most - 1;
      enough = omega (arith, q.enough, less, fewer);
      same = q.same ∙ other_name q.most here name mid value p e ∙ ap (λ (o : Option (List ℕ)). o >>= boundary_among q.most) f ∙ ap (λ (n : ℕ). boundary_among n new) (sym up);
    }

either : (b : Bool) → (b ≡ true) ⊎ (b ≡ false)
either true = inl refl
either false = inr refl

-- the boundary behind a semicolon
pub behind_mark : (mark : ℕ) (old new : List ℕ) → behind mark old ≡ Some new → length old ≡ suc (length new)
behind_mark mark [] new h = absurd (cc)
behind_mark mark (c ∷ rest) new h = elim (either (c == mark)) [
  | inl e ↦ let f : Some rest ≡ Some new = sym (ap (λ (b : Bool). cond b (Some rest) None) e) ∙ h in let same : rest ≡ new = cc in rw same refl
  | inr e ↦ let f : None ≡ Some new = sym (ap (λ (b : Bool). cond b (Some rest) None) e) ∙ h in absurd (cc)
]

pub no_parameters : (old : List ℕ) → behind 59 old ≡ None → kinds.Unreadable ≡ multipart (boundary_behind old)
no_parameters old e = sym (ap (λ (o : Option (List ℕ)). multipart (o >>= boundary_among (length old))) e)

pub with_parameters : (old new : List ℕ) → behind 59 old ≡ Some new → boundary_among (suc (length new)) new ≡ boundary_behind old
with_parameters old new e = sym (ap (λ (o : Option (List ℕ)). o >>= boundary_among (length old)) e ∙ ap (λ (n : ℕ). boundary_among n new) (behind_mark 59 old new e))

-- a Content-Type, as far as it is read
pub no_type : (old s1 : List ℕ) → s1 ≡ behind_blanks old → token s1 ≡ None → None ≡ typed old
unfolding typed
no_type old s1 e h = let first : token (behind_blanks old) ≡ None = ap token (sym e) ∙ h in rw first refl

pub no_slash : (old s1 s2 main : List ℕ) → s1 ≡ behind_blanks old → token s1 ≡ Some (main, s2) → behind 47 s2 ≡ None → None ≡ typed old
unfolding typed
no_slash old s1 s2 main e h f = let first : token (behind_blanks old) ≡ Some (main, s2) = ap token (sym e) ∙ h in rw (first, f) refl

pub no_subtype : (old s1 s2 s3 main : List ℕ) → s1 ≡ behind_blanks old → token s1 ≡ Some (main, s2) → behind 47 s2 ≡ Some s3 → token s3 ≡ None → None ≡ typed old
unfolding typed
no_subtype old s1 s2 s3 main e h f g = let first : token (behind_blanks old) ≡ Some (main, s2) = ap token (sym e) ∙ h in rw (first, f, g) refl

pub no_end_of_type : (old s1 s2 s3 s4 s5 main sub : List ℕ) → s1 ≡ behind_blanks old → token s1 ≡ Some (main, s2) → behind 47 s2 ≡ Some s3 → token s3 ≡ Some (sub, s4) → s5 ≡ behind_blanks s4
    → ends_parameter s5 ≡ false → None ≡ typed old
unfolding typed
no_end_of_type old s1 s2 s3 s4 s5 main sub e h f g k m =
    let first : token (behind_blanks old) ≡ Some (main, s2) = ap token (sym e) ∙ h in
    let last : ends_parameter (behind_blanks s4) ≡ false = ap ends_parameter (sym k) ∙ m in
    rw (first, f, g, last) refl

pub is_typed : (old s1 s2 s3 s4 s5 main sub : List ℕ) (kind : Kind) → s1 ≡ behind_blanks old → token s1 ≡ Some (main, s2) → behind 47 s2 ≡ Some s3 → token s3 ≡ Some (sub, s4) → s5 ≡ behind_blanks s4
    → ends_parameter s5 ≡ true → kind ≡ kind_by main s5 → Some kind ≡ typed old
unfolding typed
is_typed old s1 s2 s3 s4 s5 main sub kind e h f g k m is =
    let first : token (behind_blanks old) ≡ Some (main, s2) = ap token (sym e) ∙ h in
    let last : ends_parameter (behind_blanks s4) ≡ true = ap ends_parameter (sym k) ∙ m in
    rw (first, f, g, last) (ap (λ (k : Kind). Some k) is ∙ ap (λ (x : List ℕ). Some (kind_by main x)) k)
