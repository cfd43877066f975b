-- Keywords, one behind another.
use Rattle.std.proofs.Common.{inl, inr, ◌≡◌, ℕ, zero, suc, get_or, ◌+◌, ◌<◌, ◌≤◌, List, [], ◌∷◌, ◌++◌, length, take, refl, sym, ap, subst, ◌∙◌, append_assoc, append-nil, length-append, arith}
use Rattle.std.specs.List.{flat_map}
use Rattle.std.specs.Prelude.{Option, MatchOption, Result, Ok, Err, IfOk, IsErr, MatchResult}
use Rattle.std.specs.Int.{w64, to_be_bytes}
use Rattle.mdbox_base.specs.declared.memory.NoMemory.{NoMemory}
use Rattle.mdbox_base.specs.declared.ids.Guid.{Guid}
use Rattle.mdbox_base.specs.declared.ids.Uid.{Uid}
use Rattle.mdbox_base.specs.declared.ids.MapUid.{MapUid}
use Rattle.mdbox_base.specs.declared.entries.BoxEntry.{BoxEntry}
use Rattle.mdbox_base.specs.declared.entries.BoxEntry.TheVariants as box
use Rattle.model_octets.proofs.PiecesLemmas.{split_same}
use Rattle.model_octets.proofs.NumberLemmas.{front, behind, differ}
use Rattle.model_logs.specs.Entries.{four, name_text, words_text, box_text, BoxInRange, IsBoxText}
use Rattle.model_logs.proofs.EntryLemmas.{words_same}
use Rattle.log_records.specs.Worded.{HasNoTexts, IsNoAddition, IsNotWorded, MayHaveWords}
use Rattle.log_records.proofs.ListItemLemmas.{match_weaker, flat_one}

-- one keyword more was read
pub text_more : (octets : List ℕ) (xs : List (List ℕ)) (x rest behind : List ℕ) → octets ≡ flat_map name_text xs ++ rest → rest ≡ name_text x ++ behind → octets ≡ flat_map name_text (xs ++ x ∷ []) ++ behind
text_more octets xs x rest behind e r =
    e ∙ ap (λ (t : List ℕ). flat_map name_text xs ++ t) r ∙ sym (append_assoc (flat_map name_text xs) (name_text x) behind) ∙ ap (λ (t : List ℕ). t ++ behind) (sym (flat_one name_text xs x))

-- where more keywords stand than were read, one stands in front of the rest
next_stands : (xs ws : List (List ℕ)) (rest r : List ℕ) → flat_map name_text xs ++ rest ≡ flat_map name_text ws ++ r → length xs < length ws → (word : List ℕ) × (later : List ℕ) × (rest ≡ name_text word ++ later)
next_stands [] [] rest r e l = absurd (omega (arith, l))
next_stands [] (w ∷ ws) rest r e l = (w, flat_map name_text ws ++ r, e ∙ append_assoc (name_text w) (flat_map name_text ws) r)
next_stands (x ∷ xs) [] rest r e l = absurd (omega (arith, l))
next_stands (x ∷ xs) (w ∷ ws) rest r e l =
    let t : name_text x ++ (flat_map name_text xs ++ rest) ≡ name_text w ++ (flat_map name_text ws ++ r) =
    sym (append_assoc (name_text x) (flat_map name_text xs) rest) ∙ e ∙ append_assoc (name_text w) (flat_map name_text ws) r in
    let n : length x ≡ length w = ap front t in
    let s = split_same x w _ _ n (ap behind t) in
    next_stands xs ws rest r s.1 (omega (arith, l))

-- no keyword stands behind those that were read
pub texts_end : (octets : List ℕ) (xs : List (List ℕ)) (rest : List ℕ) (count : ℕ) → octets ≡ flat_map name_text xs ++ rest → length xs < count → ((word later : List ℕ) → rest ≡ name_text word ++ later → ⊥) → HasNoTexts count octets
texts_end octets xs rest count e l none = λ ws r n is.
    let s = next_stands xs ws rest r (sym e ∙ is) (omega (arith, l, n)) in
    none s.0 s.1 s.2

-- keywords behind their number
pub words_whole : (octets rest behind : List ℕ) (count : ℕ) (xs : List (List ℕ)) → octets ≡ count ∷ rest → rest ≡ flat_map name_text xs ++ behind → length xs ≡ count → length behind ≡ 0 → octets ≡ words_text xs
words_whole octets rest [] count xs e r n none = e ∙ ap (λ (t : List ℕ). count ∷ t) (r ∙ append-nil (flat_map name_text xs)) ∙ ap (λ (k : ℕ). k ∷ flat_map name_text xs) (sym n)
words_whole octets rest (x ∷ behind) count xs e r n none = absurd (omega (arith, none))

pub words_none : (octets rest : List ℕ) (count : ℕ) → octets ≡ count ∷ rest → HasNoTexts count rest → (words : List (List ℕ)) → octets ≡ words_text words → ⊥
words_none octets rest count e none words is =
    let t : count ∷ rest ≡ words_text words = sym e ∙ is in
    let n : count ≡ length words = ap front t in
    none words [] (sym n) (ap behind t ∙ sym (append-nil (flat_map name_text words)))

pub words_over : (octets rest later : List ℕ) (count : ℕ) (xs : List (List ℕ)) → octets ≡ count ∷ rest → rest ≡ flat_map name_text xs ++ later → length xs ≡ count → 1 ≤ length later → (words : List (List ℕ)) → octets ≡ words_text words → ⊥
words_over octets rest later count xs e r n some words is =
    let t : count ∷ rest ≡ words_text words = sym e ∙ is in
    let m : count ≡ length words = ap front t in
    let s = words_same xs words later [] (n ∙ m) (sym r ∙ ap behind t ∙ sym (append-nil (flat_map name_text words))) in
    omega (arith, some, ap length s.1)

pub nothing_whole : (text : List ℕ) → length text ≡ 0 → text ≡ []
nothing_whole [] e = refl
nothing_whole (x ∷ text) e = absurd (omega (arith, e))

-- sizes

-- there is room for one keyword more, where there is for all
pub flat_room : (words : List (List ℕ)) (i : ℕ) (none word : List ℕ) → i < length words → word ≡ get_or words i none → length (flat_map name_text (take i words)) + 1 + length word ≤ length (flat_map name_text words)
flat_room [] i none word l e = absurd (omega (arith, l))
flat_room (w ∷ words) zero none word l e =
    let long : length word ≡ length w = ap length e in
    omega (arith, long, length-append (name_text w) (flat_map name_text words))
flat_room (w ∷ words) (suc i) none word l e =
    let later : length (flat_map name_text (take i words)) + 1 + length word ≤ length (flat_map name_text words) = flat_room words i none word (omega (arith, l)) e in
    omega (arith, later, length-append (name_text w) (flat_map name_text (take i words)), length-append (name_text w) (flat_map name_text words))

pub text_size : (xs : List (List ℕ)) (x : List ℕ) → length (flat_map name_text (xs ++ x ∷ [])) ≡ length (flat_map name_text xs) + 1 + length x
text_size xs x = ap length (flat_one name_text xs x) ∙ length-append (flat_map name_text xs) (name_text x) ∙ omega arith

pub added_size : (entry : BoxEntry) (u : Uid) (f t s : ℕ) (m : MapUid) (g : Guid) (words : List (List ℕ)) → entry ≡ box.A u f t s m g words → BoxInRange entry → length (box_text entry) ≡ 38 + length (words_text words)
added_size entry u f t s m g words e range =
    let r : BoxInRange (box.A u f t s m g words) = subst BoxInRange e range in
    ap (λ (m : BoxEntry). length (box_text m)) e ∙ omega (arith, length-append g.0 (words_text words), r.5)

-- entries of a letter

added_not : (version : ℕ) (text fields : List ℕ) (other : BoxEntry) → text ≡ 65 ∷ fields → IsNoAddition version fields → IsBoxText version text other → ⊥
added_not version text fields (box.A u f t s m g words) e refused is =
    let r = is.in_range in
    let long : length (four u.0 ++ (f ∷ (to_be_bytes w64 t ++ (four s ++ (four m.0 ++ g.0))))) ≡ 37 = omega (arith, r.5) in
    refused (four u.0 ++ (f ∷ (to_be_bytes w64 t ++ (four s ++ (four m.0 ++ g.0))))) words long r.6 (ap behind (sym e ∙ is.text))
added_not version text fields (box.N n) e refused is = differ 65 78 _ _ (sym e ∙ is.text) refl
added_not version text fields (box.F u f) e refused is = differ 65 70 _ _ (sym e ∙ is.text) refl
added_not version text fields (box.K u words) e refused is = differ 65 75 _ _ (sym e ∙ is.text) refl
added_not version text fields (box.R u) e refused is = differ 65 82 _ _ (sym e ∙ is.text) refl

added_or_not : (version : ℕ) (text fields : List ℕ) (found : Option BoxEntry) → text ≡ 65 ∷ fields → MatchOption found (IsNoAddition version fields) (IsBoxText version (65 ∷ fields)) → MatchOption found ((other : BoxEntry) → IsBoxText version text other → ⊥) (IsBoxText version text)
added_or_not version text fields found e h =
    match_weaker found _ _ _ _ (λ refused other is. added_not version text fields other e refused is) (λ x is. record { text = e ∙ is.text; in_range = is.in_range }) h

worded_not : (version : ℕ) (text fields : List ℕ) (other : BoxEntry) → text ≡ 75 ∷ fields → IsNotWorded version fields → IsBoxText version text other → ⊥
worded_not version text fields (box.K u words) e refused is = refused u.0 words is.in_range.0 is.in_range.1 (ap behind (sym e ∙ is.text))
worded_not version text fields (box.N n) e refused is = differ 75 78 _ _ (sym e ∙ is.text) refl
worded_not version text fields (box.F u f) e refused is = differ 75 70 _ _ (sym e ∙ is.text) refl
worded_not version text fields (box.A u f t s m g words) e refused is = differ 75 65 _ _ (sym e ∙ is.text) refl
worded_not version text fields (box.R u) e refused is = differ 75 82 _ _ (sym e ∙ is.text) refl

worded_or_not : (version : ℕ) (text fields : List ℕ) (found : Option BoxEntry) → text ≡ 75 ∷ fields → MatchOption found (IsNotWorded version fields) (IsBoxText version (75 ∷ fields)) → MatchOption found ((other : BoxEntry) → IsBoxText version text other → ⊥) (IsBoxText version text)
worded_or_not version text fields found e h =
    match_weaker found _ _ _ _ (λ refused other is. worded_not version text fields other e refused is) (λ x is. record { text = e ∙ is.text; in_range = is.in_range }) h

-- what the fields give behind a letter

pub added_read : (version : ℕ) (text fields : List ℕ) (read : Result (Option BoxEntry) NoMemory) → text ≡ 65 ∷ fields → IfOk read (λ found. MatchOption found (IsNoAddition version fields) (IsBoxText version (65 ∷ fields))) → (IsErr read → version ≡ 2)
    → MatchResult read (λ found. MatchOption found ((other : BoxEntry) → IsBoxText version text other → ⊥) (IsBoxText version text)) (λ _. MayHaveWords version text)
added_read version text fields (Ok found) e h memory = added_or_not version text fields found e h
added_read version text fields (Err error) e h memory = (memory refl, fields, inl e)

pub worded_read : (version : ℕ) (text fields : List ℕ) (read : Result (Option BoxEntry) NoMemory) → text ≡ 75 ∷ fields → IfOk read (λ found. MatchOption found (IsNotWorded version fields) (IsBoxText version (75 ∷ fields))) → (IsErr read → version ≡ 2)
    → MatchResult read (λ found. MatchOption found ((other : BoxEntry) → IsBoxText version text other → ⊥) (IsBoxText version text)) (λ _. MayHaveWords version text)
worded_read version text fields (Ok found) e h memory = worded_or_not version text fields found e h
worded_read version text fields (Err error) e h memory = (memory refl, fields, inr e)
