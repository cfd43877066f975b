-- What a run tells with one event more, and what the own events of a purge add up to.
use Rattle.purge_task.proofs.Common.{◌≡◌, ◌<◌, ◌+◌, ◌==◌, ◌||◌, ℕ, Bool, true, false, List, [], ◌∷◌, ◌++◌, map, refl, sym, ◌∙◌, ap, subst, arith, All, inl, inr, flat_map, sum_by, if◌then◌else◌, list_any, cases_eq, eq-eqb, ne_eqb, append-nil, All-cons, All-nil, All-head, All-tail, All-weaker}
use Rattle.purge_task.proofs.Common.{list_any-append, sum_by-cons, RunEvent, TakenFile, how_many, is_one_of, is_done, HaveTaken, told_taken, Source}
use Rattle.std.specs.Prelude.{◌≢◌}
use Rattle.std.proofs.lemmas.Grind.{flat_map-append}
use Rattle.std.proofs.lemmas.List.{append_assoc}
use Rattle.std.proofs.lemmas.List.Elements.{All-append}
use Rattle.std.proofs.lemmas.List.Sums.{sum_by-append}

pub or_none : (b : Bool) → (b || false) ≡ b
or_none true = refl
or_none false = refl

pub or_true : (b : Bool) → (b || true) ≡ true
or_true true = refl
or_true false = refl

pub any_push : {X : Type 0} → (p : X → Bool) (xs : List X) (x : X) → list_any p (xs ++ x ∷ []) ≡ (list_any p xs || p x)
any_push p xs x = list_any-append p xs (x ∷ []) ∙ ap (λ (b : Bool). list_any p xs || b) (or_none (p x))

pub any_still : {X : Type 0} → (p : X → Bool) (xs : List X) (x : X) → p x ≡ false → list_any p (xs ++ x ∷ []) ≡ list_any p xs
any_still p xs x e = any_push p xs x ∙ (ap (λ (b : Bool). list_any p xs || b) e ∙ or_none (list_any p xs))

pub any_now : {X : Type 0} → (p : X → Bool) (xs : List X) (x : X) → p x ≡ true → list_any p (xs ++ x ∷ []) ≡ true
any_now p xs x e = any_push p xs x ∙ (ap (λ (b : Bool). list_any p xs || b) e ∙ or_true (list_any p xs))

pub sum_push : {X : Type 0} → (f : X → ℕ) (xs : List X) (x : X) → sum_by f (xs ++ x ∷ []) ≡ sum_by f xs + f x
sum_push f xs x = let h = sum_by-append f xs (x ∷ []) in let k = sum_by-cons f x [] in omega (arith, h, k)

pub flat_push : {X Y : Type 0} → (f : X → List Y) (xs : List X) (x : X) → flat_map f (xs ++ x ∷ []) ≡ flat_map f xs ++ f x
flat_push f xs x = flat_map-append f xs (x ∷ []) ∙ ap (λ (l : List _). flat_map f xs ++ l) (append-nil (f x))

pub one_alone : (file n : ℕ) → is_one_of (file ∷ []) n ≡ (file == n)
one_alone file n = or_none (file == n)

pub one_itself : (file : ℕ) → is_one_of (file ∷ []) file ≡ true
one_itself file = one_alone file file ∙ eq-eqb file file refl

pub one_other : (file n : ℕ) → n ≢ file → is_one_of (file ∷ []) n ≡ false
one_other file n apart = one_alone file n ∙ ne_eqb file n (λ e. apart (sym e))

-- ---- how many different numbers

abbrev with_one : Bool → ℕ → ℕ
with_one there n = if there then n else n + 1

pub many_push : (xs : List ℕ) (n : ℕ) → how_many (xs ++ n ∷ []) ≡ (if is_one_of xs n then how_many xs else how_many xs + 1)
many_push [] n = refl
many_push (x ∷ xs) n = elim (cases_eq n x) [
  | inl same ↦ subst (λ (y : ℕ). how_many (y ∷ (xs ++ n ∷ [])) ≡ with_one (is_one_of (y ∷ xs) n) (how_many (y ∷ xs))) same
      (ap (λ (b : Bool). with_one b (how_many (xs ++ n ∷ []))) (any_now (λ (m : ℕ). m == n) xs n (eq-eqb n n refl))
      ∙ (many_push xs n ∙ sym (ap (λ (b : Bool). with_one (b || is_one_of xs n) (how_many (n ∷ xs))) (eq-eqb n n refl))))
  | inr apart ↦ ap (λ (b : Bool). with_one b (how_many (xs ++ n ∷ []))) (any_still (λ (m : ℕ). m == x) xs n (ne_eqb n x apart))
      ∙ (by_tests (is_one_of xs x) (is_one_of xs n) (how_many xs) (how_many (xs ++ n ∷ [])) (many_push xs n)
      ∙ sym (ap (λ (b : Bool). with_one (b || is_one_of xs n) (how_many (x ∷ xs))) (ne_eqb x n (λ e. apart (sym e)))))
]
  where
    by_tests : (a b : Bool) (k later : ℕ) → later ≡ with_one b k → with_one a later ≡ with_one b (with_one a k)
    by_tests true b k later e = e
    by_tests false true k later e = ap (λ (n : ℕ). n + 1) e
    by_tests false false k later e = ap (λ (n : ℕ). n + 1) e

-- ---- which of the taken are done

abbrev pub gone_files : List RunEvent → List ℕ
gone_files own = flat_map (λ e. e.doomed ++ e.removed) own

abbrev goes : ℕ → RunEvent → Bool
goes file e = is_one_of e.doomed file || is_one_of e.removed file

-- a file that is done is one of those that were doomed or removed
pub done_gone : (own : List RunEvent) (file : ℕ) → is_one_of (gone_files own) file ≡ list_any (goes file) own
done_gone [] file = refl
done_gone (e ∷ own) file =
    list_any-append (λ (m : ℕ). m == file) (e.doomed ++ e.removed) (gone_files own)
    ∙ (ap (λ (b : Bool). b || is_one_of (gone_files own) file) (list_any-append (λ (m : ℕ). m == file) e.doomed e.removed) ∙ ap (λ (b : Bool). goes file e || b) (done_gone own file))

pub done_push : (own : List RunEvent) (event : RunEvent) (taken : TakenFile) → is_done (own ++ event ∷ []) taken ≡ (is_done own taken || goes taken.file event)
done_push own event taken = any_push (goes taken.file) own event

-- an event that dooms and removes none leaves which are done
pub taken_still : (done left : List Source) (own : List RunEvent) (event : RunEvent) → event.files ≡ [] → event.doomed ≡ [] → event.removed ≡ [] → HaveTaken done left own → HaveTaken done left (own ++ event ∷ [])
taken_still done left own event files doomed removed h = record {
  taken = flat_push (λ (e : RunEvent). e.files) own event ∙ (ap (λ (fs : List TakenFile). flat_map (λ (e : RunEvent). e.files) own ++ fs) files ∙ (append-nil (flat_map (λ (e : RunEvent). e.files) own) ∙ h.taken));
  done_are = All-weaker (λ (s : Source). is_done own (told_taken s) ≡ true) (λ (s : Source). is_done (own ++ event ∷ []) (told_taken s) ≡ true) (λ s e. same s ∙ e) done h.done_are;
  left_are = All-weaker (λ (s : Source). is_done own (told_taken s) ≡ false) (λ (s : Source). is_done (own ++ event ∷ []) (told_taken s) ≡ false) (λ s e. same s ∙ e) left h.left_are;
}
  where
    same : (s : Source) → is_done (own ++ event ∷ []) (told_taken s) ≡ is_done own (told_taken s)
    same s = any_still (goes s.file.0) own event (ap (λ (fs : List ℕ). is_one_of fs s.file.0 || is_one_of event.removed s.file.0) doomed ∙ ap (λ (fs : List ℕ). is_one_of fs s.file.0) removed)

-- one that dooms or removes the first of those that are left
pub taken_on : (done : List Source) (source : Source) (left : List Source) (own : List RunEvent) (event : RunEvent) → event.files ≡ [] → ((file : ℕ) → goes file event ≡ (source.file.0 == file)) → All (λ s. source.file.0 < s.file.0) left → HaveTaken done (source ∷ left) own
    → HaveTaken (done ++ source ∷ []) left (own ++ event ∷ [])
taken_on done source left own event files goes_is apart h = record {
  taken = flat_push (λ (e : RunEvent). e.files) own event
      ∙ (ap (λ (fs : List TakenFile). flat_map (λ (e : RunEvent). e.files) own ++ fs) files ∙ (append-nil (flat_map (λ (e : RunEvent). e.files) own) ∙ (h.taken ∙ ap (λ (l : List Source). map told_taken l) (sym (append_assoc done (source ∷ []) left)))));
  done_are = All-append (λ (s : Source). is_done (own ++ event ∷ []) (told_taken s) ≡ true) done (source ∷ [])
      (All-weaker (λ (s : Source). is_done own (told_taken s) ≡ true) (λ (s : Source). is_done (own ++ event ∷ []) (told_taken s) ≡ true) (λ s e. done_push own event (told_taken s) ∙ ap (λ (b : Bool). b || goes s.file.0 event) e) done h.done_are)
      (All-cons (λ (s : Source). is_done (own ++ event ∷ []) (told_taken s) ≡ true) source []
      (done_push own event (told_taken source) ∙ (ap (λ (b : Bool). is_done own (told_taken source) || b) (goes_is source.file.0 ∙ eq-eqb source.file.0 source.file.0 refl) ∙ or_true (is_done own (told_taken source)))) (All-nil _));
  left_are = not_done left apart (All-tail (λ (s : Source). is_done own (told_taken s) ≡ false) source left h.left_are);
}
  where
    not_done : (rest : List Source) → All (λ s. source.file.0 < s.file.0) rest → All (λ s. is_done own (told_taken s) ≡ false) rest → All (λ s. is_done (own ++ event ∷ []) (told_taken s) ≡ false) rest
    not_done [] a k = All-nil _
    not_done (s ∷ rest) a k =
        All-cons (λ (x : Source). is_done (own ++ event ∷ []) (told_taken x) ≡ false) s rest
        (done_push own event (told_taken s) ∙ (ap (λ (b : Bool). b || goes s.file.0 event) (All-head (λ (x : Source). is_done own (told_taken x) ≡ false) s rest k) ∙ (goes_is s.file.0 ∙ ne_eqb source.file.0 s.file.0 (λ e. let l = All-head (λ (x : Source). source.file.0 < x.file.0) s rest a in omega (arith, e, l)))))
        (not_done rest (All-tail (λ (x : Source). source.file.0 < x.file.0) s rest a) (All-tail (λ (x : Source). is_done own (told_taken x) ≡ false) s rest k))
