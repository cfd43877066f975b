-- What the readers of a value give, against the definitions.
use Rattle.std.proofs.Common.{refl, ◌≡◌, ◌≢◌, ◌≤◌, ◌+◌, ℕ, Bool, true, false, cond, not, List, [], ◌∷◌, ◌++◌, length, take, drop, take_while, sym, ◌∙◌, ap, arith, append_assoc, append-nil, Option, Some, None, IfSome, IfNone, ◌⊎◌, inl, inr, eqb, ◌&&◌}
use Rattle.std.specs.Prelude.{◌==◌, ◌||◌, nat_le, nat_eq, codes}
use Rattle.std.specs.List.{prefix_len, list_all, ends_with}
use Rattle.std.proofs.lemmas.Bool.Decides.{nat_tests}
use Rattle.std.proofs.lemmas.List.Folds.{prefix_len-append, length-prefix_len}
use Rattle.std.proofs.lemmas.List.Sums.{prefix_len-le-length}
use Rattle.std.proofs.lemmas.List.{take-append-le, drop-append-le}
use Rattle.model_mime.specs.declared.mime.Kind.TheVariants as kinds
use Rattle.model_mime.specs.Lines.{is_blank}
use Rattle.model_mime.specs.Fields.{continuation, is_token, token, quoted, with_octet, is_boundary, multipart, parameter_value, behind, is_printing}
use Rattle.mime_fields.specs.declared.held.Held.{Held}
use Rattle.mime_fields.specs.declared.held.Held.TheVariants as helds
use Rattle.mime_fields.specs.Holding.{held}
use Rattle.mime_fields.specs.Reading.{IsHeld, IsQuoting, with_front}

either : (b : Bool) → (b ≡ true) ⊎ (b ≡ false)
either true = inl refl
either false = inr refl

cut_off : (x short y z : Bool) → short ≡ false → (((x && short) && y) && z) ≡ false
cut_off true short y z e = rw e refl
cut_off false short y z e = refl

not_boundary : (text : List ℕ) → nat_le (length text) 70 ≡ false → is_boundary text ≡ false
unfolding is_boundary
not_boundary text e = cut_off (nat_le 1 (length text)) (nat_le (length text) 70) (list_all is_printing text) (not (ends_with nat_eq text (codes " "))) e

-- a value that is too long to hold is no boundary
pub too_long : (text : List ℕ) → helds.TooLong ≡ held text → kinds.Unreadable ≡ multipart (Some text)
too_long text h = elim (either (nat_le (length text) 70)) [
  | inl e ↦ absurd (let f : helds.TooLong ≡ helds.Whole text = h ∙ ap (λ (b : Bool). cond b (helds.Whole text) helds.TooLong) e in cc)
  | inr e ↦ sym (ap (λ (b : Bool). cond b (kinds.Multipart text) kinds.Unreadable) (not_boundary text e))
]

-- no token goes on in a line below, since that begins with a blank
blank_ends : (c : ℕ) → is_blank c ≡ true → is_token c ≡ false
blank_ends c e = elim (either (c == 32)) [
  | inl f ↦ let is : c ≡ 32 = grind (arith, nat_tests) in rw is refl
  | inr f ↦ let g : (c == 9) ≡ true = sym (ap (λ (b : Bool). b || (c == 9)) f) ∙ e in let is : c ≡ 9 = grind (arith, nat_tests) in rw is refl
]

below_ends : (lines : List (List ℕ)) → prefix_len is_token (continuation lines) ≡ 0
below_ends [] = refl
below_ends ([] ∷ lines) = refl
below_ends ((c ∷ line) ∷ lines) = elim (either (is_blank c)) [
  | inl e ↦ ap (λ (b : Bool). prefix_len is_token (cond b ((c ∷ line) ++ continuation lines) [])) e ∙ ap (λ (b : Bool). cond b (1 + prefix_len is_token (line ++ continuation lines)) 0) (blank_ends c e)
  | inr e ↦ ap (λ (b : Bool). prefix_len is_token (cond b ((c ∷ line) ++ continuation lines) [])) e
]

same_size : (n size : ℕ) → cond (eqb n size) (size + 0) n ≡ n
same_size n size = grind (arith, nat_tests)

front_size : (line below : List ℕ) → prefix_len is_token below ≡ 0 → prefix_len is_token (line ++ below) ≡ prefix_len is_token line
front_size line below e = prefix_len-append is_token line below ∙ ap (λ (k : ℕ). cond (eqb (prefix_len is_token line) (length line)) (length line + k) (prefix_len is_token line)) e ∙ same_size (prefix_len is_token line) (length line)

front_token : (line below : List ℕ) → prefix_len is_token below ≡ 0 → take_while is_token (line ++ below) ≡ take_while is_token line
front_token line below e = ap (λ (k : ℕ). take k (line ++ below)) (front_size line below e) ∙ take-append-le (prefix_len is_token line) line below (prefix_len-le-length is_token line)

pub no_token : (line : List ℕ) (lines : List (List ℕ)) (size : ℕ) → size ≡ length (take_while is_token line) → size ≡ 0 → token (line ++ continuation lines) ≡ None
unfolding token
no_token line lines size is e =
    let here : length (take_while is_token (line ++ continuation lines)) ≡ 0 = ap length (front_token line (continuation lines) (below_ends lines)) ∙ sym is ∙ e in
    let test : (length (take_while is_token (line ++ continuation lines)) == 0) ≡ true = grind (arith, nat_tests) in
    rw test refl

pair_same : {a b x y : List ℕ} → a ≡ b → x ≡ y → ◌≡◌ {A = Option (List ℕ × List ℕ)} (Some (a, x)) (Some (b, y))
pair_same e f = rw (e, f) refl

pub some_token : (line : List ℕ) (lines : List (List ℕ)) (size : ℕ) → size ≡ length (take_while is_token line) → size ≢ 0
    → token (line ++ continuation lines) ≡ Some (take size line, drop size line ++ continuation lines)
unfolding token
some_token line lines size is other =
    let same : take_while is_token (line ++ continuation lines) ≡ take_while is_token line = front_token line (continuation lines) (below_ends lines) in
    let here : length (take_while is_token (line ++ continuation lines)) ≡ size = ap length same ∙ sym is in
    let test : (length (take_while is_token (line ++ continuation lines)) == 0) ≡ false = grind (arith, nat_tests) in
    let cut : take_while is_token line ≡ take size line = ap (λ (k : ℕ). take k line) (sym (length-prefix_len is_token line) ∙ sym is) in
    let within : size ≤ length line = omega (arith, is, length-prefix_len is_token line, prefix_len-le-length is_token line) in
    let front : take_while is_token (line ++ continuation lines) ≡ take size line = same ∙ cut in
    let rest : drop (length (take_while is_token (line ++ continuation lines))) (line ++ continuation lines) ≡ drop size line ++ continuation lines =
    ap (λ (k : ℕ). drop k (line ++ continuation lines)) here ∙ drop-append-le size line (continuation lines) within in
    rw test (pair_same front rest)

pub token_taken : (line front rest : List ℕ) (lines : List (List ℕ)) (size : ℕ) → size ≡ length (take_while is_token line) → size ≢ 0 → front ≡ take size line → rest ≡ drop size line
    → token (line ++ continuation lines) ≡ Some (front, rest ++ continuation lines)
token_taken line front rest lines size is other e f =
    some_token line lines size is other ∙ ap (λ (x : List ℕ). Some (x, drop size line ++ continuation lines)) (sym e) ∙ ap (λ (x : List ℕ). Some (front, x ++ continuation lines)) (sym f)

-- quoted strings
front_none : (read : Option (List ℕ × List ℕ)) → with_front [] read ≡ read
front_none None = refl
front_none (Some (text, rest)) = refl

front_octet : (text : List ℕ) (c : ℕ) (read : Option (List ℕ × List ℕ)) → with_front text (with_octet c read) ≡ with_front (text ++ c ∷ []) read
front_octet text c None = refl
front_octet text c (Some (more, rest)) = ap (λ (x : List ℕ). Some (x, rest)) (sym (append_assoc text (c ∷ []) more))

pub quoting_begins : (old : List ℕ) (value : Held) → value ≡ held [] → IsQuoting old value old
quoting_begins old value e = record { text = []; holds = e; same = sym (front_none (quoted old)) }

pub quoting_goes_on : (old was here new : List ℕ) (value value' : Held) (octet c : ℕ) → (q : IsQuoting old value was) → was ≡ octet ∷ here → quoted (octet ∷ here) ≡ with_octet c (quoted new)
    → ((text : List ℕ) → value ≡ held text → value' ≡ held (text ++ c ∷ [])) → IsQuoting old value' new
quoting_goes_on old was here new value value' octet c q front e h = record {
  text = q.text ++ c ∷ [];
  holds = h q.text q.holds;
  same = q.same ∙ ap (λ (x : List ℕ). with_front q.text (quoted x)) front ∙ ap (with_front q.text) e ∙ front_octet q.text c (quoted new);
}

closes : (rest : List ℕ) → quoted (34 ∷ rest) ≡ Some ([], rest)
closes [] = refl
closes (d ∷ rest) = refl

pub quoting_ends : (old rest : List ℕ) (value : Held) (octet : ℕ) → IsQuoting old value (octet ∷ rest) → octet ≡ 34 → IsHeld quoted old value rest
quoting_ends old rest value octet q e = record {
  text = q.text;
  holds = q.holds;
  gives = q.same ∙ ap (λ (c : ℕ). with_front q.text (quoted (c ∷ rest))) e ∙ ap (with_front q.text) (closes rest) ∙ ap (λ (x : List ℕ). Some (x, rest)) (append-nil q.text);
}

pub quoting_fails : (old here : List ℕ) (value : Held) → IsQuoting old value here → quoted here ≡ None → quoted old ≡ None
quoting_fails old here value q e = q.same ∙ ap (with_front q.text) e

-- a parameter's value by its first octet
pub value_as_quoted : (old new : List ℕ) → behind 34 old ≡ Some new → parameter_value old ≡ quoted new
unfolding parameter_value
value_as_quoted [] new h = absurd (cc)
value_as_quoted (c ∷ rest) new h = elim (either (c == 34)) [
  | inl e ↦ let f : Some rest ≡ Some new = sym (ap (λ (b : Bool). cond b (Some rest) None) e) ∙ h in let same : rest ≡ new = cc in
      ap (λ (b : Bool). cond b (quoted rest) (token (c ∷ rest))) e ∙ ap quoted same
  | inr e ↦ let f : None ≡ Some new = sym (ap (λ (b : Bool). cond b (Some rest) None) e) ∙ h in absurd (cc)
]

no_token_in_nothing : token [] ≡ None
unfolding token
no_token_in_nothing = refl

pub value_as_token : (old : List ℕ) → behind 34 old ≡ None → parameter_value old ≡ token old
unfolding parameter_value
value_as_token [] h = sym no_token_in_nothing
value_as_token (c ∷ rest) h = elim (either (c == 34)) [
  | inl e ↦ let f : Some rest ≡ None = sym (ap (λ (b : Bool). cond b (Some rest) None) e) ∙ h in absurd (cc)
  | inr e ↦ ap (λ (b : Bool). cond b (quoted rest) (token (c ∷ rest))) e
]

pub held_as : (old mid new : List ℕ) (value : Option Held) → parameter_value old ≡ quoted mid → IfSome value (λ h. IsHeld quoted mid h new) → IfSome value (λ h. IsHeld parameter_value old h new)
held_as old mid new None e h = tt
held_as old mid new (Some value) e h = record { text = h.text; holds = h.holds; gives = e ∙ h.gives }

pub none_as : (old mid : List ℕ) (value : Option Held) → parameter_value old ≡ quoted mid → IfNone value (quoted mid ≡ None) → IfNone value (parameter_value old ≡ None)
none_as old mid None e h = e ∙ h
none_as old mid (Some value) e h = tt

pub held_token : (old now front new : List ℕ) (value : Held) → behind 34 old ≡ None → now ≡ old → token now ≡ Some (front, new) → value ≡ held front → IsHeld parameter_value old value new
held_token old now front new value none same e h = record { text = front; holds = h; gives = value_as_token old none ∙ ap token (sym same) ∙ e }

pub none_token : (old now : List ℕ) → behind 34 old ≡ None → now ≡ old → token now ≡ None → parameter_value old ≡ None
none_token old now none same e = value_as_token old none ∙ ap token (sym same) ∙ e
