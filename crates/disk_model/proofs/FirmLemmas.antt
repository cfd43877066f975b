-- A file whose octets a crash leaves as they read, and what a crash may leave of it after one call.
use Rattle.std.proofs.Common.{◌≡◌, ◌≢◌, inl, inr, ℕ, ◌+◌, ◌<◌, ◌≤◌, ◌==◌, suc, true, false, ◌||◌, if◌then◌else◌, List, [], ◌∷◌, ◌++◌, length, take, drop, slice_get, get_or, Option, Some, None, All, refl, sym, ◌∙◌, subst, ap, arith}
use Rattle.std.proofs.Common.{max, min, append_assoc, length-append, lit<}
use Rattle.std.proofs.Math.ListN.{set, get_or-append}
use Rattle.std.proofs.Math.Seq.{take-length, take-append_seam, drop-append-add}
use Rattle.std.proofs.Common.{length-set, get_or-set_same, get_or-set_other}
use Rattle.std.proofs.lemmas.List.{take-append-drop, length-take-le, get_or-take}
use Rattle.std.proofs.lemmas.List.Elements.{All-take, All-append, All-cons, All-nil, All-set}
use Rattle.std.proofs.lemmas.Bool.{cases_Bool, cases_lt, cases_eq, true≢false, false≢true, or_from, eq-eqb, ne_eqb, cond-true, cond-false}
use Rattle.std.proofs.lemmas.Option.{slice_get-get_or, same_Some}
use Rattle.disk_model.specs.Disk.{FileState, MayHold, MayLeave, Keeps, reading, covers, overlaid, written, half_written, cut_to, half_cut, synced}
use Rattle.disk_model.proofs.OneFileLemmas.{same_by_get}
use Rattle.disk_model.proofs.LeavingLemmas.{covers-before, covers-behind, front_stays, overlaid-end}

abbrev AreOctets : List ℕ → Type 0
AreOctets text = All (λ octet. octet < 256) text

-- the same, field by field
pub record IsFirm (f : FileState) (text : List ℕ) : Type 0 where
  pub there : f.is_there ≡ true
  pub octets : f.octets ≡ text
  pub least : f.least ≡ length text
  pub greatest : f.greatest ≡ length text
  pub firm : (i : ℕ) → i < length text → f.is_loose i ≡ false
  pub name : f.is_name_loose ≡ false
  pub are_octets : AreOctets text

-- elements at one place
pub at_place : (xs ys : List ℕ) (i : ℕ) → i < length xs → i < length ys → get_or xs i 0 ≡ get_or ys i 0 → slice_get xs i ≡ slice_get ys i
at_place xs ys i a b e = slice_get-get_or xs i 0 a ∙ ap Some e ∙ sym (slice_get-get_or ys i 0 b)

-- lists that agree at each place but one
one_apart : (a b o : List ℕ) (x : ℕ) → length o ≡ length (a ++ x ∷ b) → ((i : ℕ) → i < length o → i ≢ length a → slice_get o i ≡ slice_get (a ++ x ∷ b) i) → (z : ℕ) × (o ≡ a ++ z ∷ b)
one_apart [] b [] x l same = absurd (omega (arith, l))
one_apart [] b (z ∷ o) x l same =
    let long : length o ≡ length b = omega (arith, l) in
    (z, ap (λ (t : List ℕ). z ∷ t) (same_by_get o b long (λ i below. same (suc i) (omega (arith, long)) (λ e. omega (arith, e)))))
one_apart (p ∷ ps) b [] x l same = absurd (omega (arith, l))
one_apart (p ∷ ps) b (q ∷ o) x l same =
    let head : Some q ≡ Some p = same 0 (omega arith) (λ e. omega (arith, e)) in
    let r : (z : ℕ) × (o ≡ ps ++ z ∷ b) = one_apart ps b o x (omega (arith, l)) (λ i below apart. same (suc i) (omega arith) (λ e. apart (omega (arith, e)))) in
    (r.0, let e : o ≡ ps ++ r.0 ∷ b = r.1 in cc)

-- from what a crash leaves to the fields

there_from_reading : (f : FileState) (text : List ℕ) → reading f ≡ Some text → (f.is_there ≡ true) × (f.octets ≡ text)
there_from_reading f text e = elim (cases_Bool f.is_there) [
  | inl there ↦ (there, same_Some _ _ (sym (cond-true f.is_there (Some f.octets) None there) ∙ e))
  | inr gone ↦ absurd (let n : reading f ≡ None = cond-false f.is_there (Some f.octets) None gone in let s : None ≡ Some text = sym n ∙ e in cc)
]

pub reading_from_there : (f : FileState) → f.is_there ≡ true → reading f ≡ Some f.octets
reading_from_there f there = cond-true f.is_there (Some f.octets) None there

pub reads_there : (f : FileState) (text : List ℕ) → reading f ≡ Some text → (f.is_there ≡ true) × (f.octets ≡ text)
reads_there f text e = there_from_reading f text e

held : (f : FileState) (text : List ℕ) → Keeps f text → MayHold f text
held f text k = (k.leaves (Some text)).1 refl

only : (f : FileState) (text octets : List ℕ) → Keeps f text → MayHold f octets → octets ≡ text
only f text octets k h = same_Some _ _ ((k.leaves (Some octets)).0 h)

shortest : (f : FileState) (text : List ℕ) → Keeps f text → f.least < length text → ⊥
shortest f text k l =
    let h = held f text k in
    let t = there_from_reading f text k.reads in
    let cut : length (take f.least text) ≡ f.least = length-take-le f.least text (omega arith) in
    let image : MayHold f (take f.least text) = record {
      named = h.named;
      least = omega (arith, cut);
      greatest = let g : length text ≤ f.greatest = h.greatest in omega (arith, cut);
      same = λ i below firm. at_place (take f.least text) text i (omega (arith, cut, below)) (omega (arith, below, l)) (get_or-take f.least text i 0 below) ∙ ap (λ (o : List ℕ). slice_get o i) (sym t.1);
      are_octets = All-take (λ octet. octet < 256) f.least text h.are_octets;
    } in
    omega (arith, ap length (only f text (take f.least text) k image), cut)

longest : (f : FileState) (text : List ℕ) → Keeps f text → length text < f.greatest → ⊥
longest f text k l =
    let h = held f text k in
    let t = there_from_reading f text k.reads in
    let more : length (text ++ 0 ∷ []) ≡ length text + 1 = length-append text (0 ∷ []) in
    let image : MayHold f (text ++ 0 ∷ []) = record {
      named = h.named;
      least = let g : f.least ≤ length text = h.least in omega (arith, more);
      greatest = omega (arith, more);
      same = λ i below firm. let g : f.least ≤ length text = h.least in at_place (text ++ 0 ∷ []) text i (omega (arith, more)) (omega arith) (get_or-append text (0 ∷ []) 0 i (omega arith)) ∙ ap (λ (o : List ℕ). slice_get o i) (sym t.1);
      are_octets = All-append (λ octet. octet < 256) text (0 ∷ []) h.are_octets (All-cons (λ octet. octet < 256) 0 [] (lit< tt) (All-nil (λ octet. octet < 256)));
    } in
    omega (arith, ap length (only f text (text ++ 0 ∷ []) k image), more)

-- another octet than this one
another : ℕ → ℕ
another x = if x == 0 then 1 else 0

another_small : (x : ℕ) → another x < 256
unfolding another
another_small x = elim (cases_Bool (x == 0)) [ inl e ↦ rw e (lit< tt) | inr e ↦ rw e (lit< tt) ]

another_differs : (x : ℕ) → another x ≡ x → ⊥
unfolding another
another_differs x e = elim (cases_eq x 0) [
  | inl zero_is ↦ let one : another x ≡ 1 = cond-true (x == 0) 1 0 (eq-eqb x 0 zero_is) in omega (arith, one, e, zero_is)
  | inr apart ↦ let none : another x ≡ 0 = cond-false (x == 0) 1 0 (ne_eqb x 0 apart) in apart (sym e ∙ none)
]

untouched : (f : FileState) (text : List ℕ) (i : ℕ) → Keeps f text → i < length text → f.is_loose i ≡ true → ⊥
untouched f text i k l loose =
    let h = held f text k in
    let t = there_from_reading f text k.reads in
    let other : List ℕ = set text i (another (get_or text i 0)) in
    let long : length other ≡ length text = length-set text i (another (get_or text i 0)) in
    let image : MayHold f other = record {
      named = h.named;
      least = let g : f.least ≤ length text = h.least in omega (arith, long);
      greatest = let g : length text ≤ f.greatest = h.greatest in omega (arith, long);
      same = λ j below firm.
          let g : f.least ≤ length text = h.least in
          let apart : j ≢ i = λ e. false≢true (sym firm ∙ ap f.is_loose e ∙ loose) in
          at_place other text j (omega (arith, long)) (omega arith) (get_or-set_other text i j (another (get_or text i 0)) 0 apart) ∙ ap (λ (o : List ℕ). slice_get o j) (sym t.1);
      are_octets = All-set (λ octet. octet < 256) text i (another (get_or text i 0)) (another_small (get_or text i 0)) h.are_octets;
    } in
    another_differs (get_or text i 0) (sym (get_or-set_same text i (another (get_or text i 0)) 0 l) ∙ ap (λ (o : List ℕ). get_or o i 0) (only f text other k image))

pub firm_from_keeps : (f : FileState) (text : List ℕ) → Keeps f text → IsFirm f text
firm_from_keeps f text k =
    let h = held f text k in
    let t = there_from_reading f text k.reads in
    record {
      there = t.0;
      octets = t.1;
      least = elim (cases_lt f.least (length text)) [ inl l ↦ absurd (shortest f text k l) | inr g ↦ let a : f.least ≤ length text = h.least in omega arith ];
      greatest = elim (cases_lt (length text) f.greatest) [ inl l ↦ absurd (longest f text k l) | inr g ↦ let a : length text ≤ f.greatest = h.greatest in omega arith ];
      firm = λ i l. elim (cases_Bool (f.is_loose i)) [ inl loose ↦ absurd (untouched f text i k l loose) | inr firm ↦ firm ];
      name = elim (cases_Bool f.is_name_loose) [ inl loose ↦ absurd (let none : None ≡ Some text = (k.leaves None).0 (inr loose) in cc) | inr firm ↦ firm ];
      are_octets = h.are_octets;
    }

-- and back

firm_left : (f : FileState) (text : List ℕ) → IsFirm f text → (left : Option (List ℕ)) → MayLeave f left → left ≡ Some text
firm_left f text k None (inl gone) = absurd (true≢false (sym k.there ∙ gone))
firm_left f text k None (inr loose) = absurd (false≢true (sym k.name ∙ loose))
firm_left f text k (Some octets) h =
    let least : f.least ≤ length octets = h.least in
    let greatest : length octets ≤ f.greatest = h.greatest in
    let long : length octets ≡ length text = omega (arith, k.least, k.greatest) in
    ap Some (same_by_get octets text long (λ i below. h.same i (omega (arith, k.least)) (k.firm i below) ∙ ap (λ (o : List ℕ). slice_get o i) k.octets))

firm_holds : (f : FileState) (text : List ℕ) → IsFirm f text → MayHold f text
firm_holds f text k = record {
  named = inl k.there;
  least = omega (arith, k.least);
  greatest = omega (arith, k.greatest);
  same = λ i below firm. ap (λ (o : List ℕ). slice_get o i) (sym k.octets);
  are_octets = k.are_octets;
}

pub keeps_from_firm : (f : FileState) (text : List ℕ) → IsFirm f text → Keeps f text
keeps_from_firm f text k = record {
  reads = reading_from_there f k.there ∙ ap Some k.octets;
  leaves = λ left. (λ h. firm_left f text k left h, λ e. let F : Option (List ℕ) → Type 0 = MayLeave f in subst F (sym e) (firm_holds f text k));
}

-- after a sync, where the name is synced

pub synced_firm : (f : FileState) (text : List ℕ) → f.is_there ≡ true → f.is_name_loose ≡ false → f.octets ≡ text → AreOctets text → IsFirm (synced f) text
synced_firm f text there name octets are = record {
  there = there;
  octets = octets;
  least = ap length octets;
  greatest = ap length octets;
  firm = λ i l. refl;
  name = name;
  are_octets = are;
}

-- What a crash may leave after a write at the end: the octets that stood, and others behind them.

end_left : (f : FileState) (text from : List ℕ) (g : FileState) → IsFirm f text → g.is_there ≡ f.is_there → g.is_name_loose ≡ f.is_name_loose → g.least ≡ f.least
    → length text ≤ length g.octets → take (length text) g.octets ≡ text → ((i : ℕ) → g.is_loose i ≡ (f.is_loose i || covers (length text) (length from) i))
    → (left : Option (List ℕ)) → MayLeave g left → (rest : List ℕ) × (left ≡ Some (text ++ rest))
end_left f text from g k there name least long front loose None (inl gone) = absurd (true≢false (sym k.there ∙ sym there ∙ gone))
end_left f text from g k there name least long front loose None (inr is) = absurd (false≢true (sym k.name ∙ sym name ∙ is))
end_left f text from g k there name least long front loose (Some octets) h =
    let shorter : length text ≤ g.least = omega (arith, least, k.least) in
    let same : take (length text) octets ≡ text =
    front_stays g octets (length text) h shorter long (λ i below. loose i ∙ or_from (f.is_loose i) (covers (length text) (length from) i) (k.firm i below) (covers-before (length text) (length from) i below)) ∙ front in
    (drop (length text) octets, ap Some (sym (take-append-drop (length text) octets) ∙ ap (λ (t : List ℕ). t ++ drop (length text) octets) same))

pub end_written_left : (f : FileState) (text from : List ℕ) → IsFirm f text → (left : Option (List ℕ)) → MayLeave (written (length text) from f) left → (rest : List ℕ) × (left ≡ Some (text ++ rest))
end_written_left f text from k left h =
    let octets : overlaid f.octets (length text) from ≡ text ++ from = ap (λ (t : List ℕ). overlaid t (length text) from) k.octets ∙ overlaid-end text from in
    end_left f text from (written (length text) from f) k refl refl refl
    (let l : length (overlaid f.octets (length text) from) ≡ length (text ++ from) = ap length octets in omega (arith, l, length-append text from))
    (ap (take (length text)) octets ∙ take-append_seam text from) (λ i. refl) left h

pub end_half_left : (f : FileState) (text from : List ℕ) → IsFirm f text → (left : Option (List ℕ)) → MayLeave (half_written (length text) (length from) f) left → (rest : List ℕ) × (left ≡ Some (text ++ rest))
end_half_left f text from k left h =
    end_left f text from (half_written (length text) (length from) f) k refl refl refl
    (let l : length f.octets ≡ length text = ap length k.octets in omega (arith, l))
    (ap (take (length text)) k.octets ∙ take-length text) (λ i. refl) left h

-- What a crash may leave after a write over one octet: any octet there.

one_left : (f : FileState) (a b : List ℕ) (x y : ℕ) (g : FileState) → IsFirm f (a ++ x ∷ b) → g.is_there ≡ f.is_there → g.is_name_loose ≡ f.is_name_loose → g.least ≡ f.least
    → g.greatest ≡ length (a ++ x ∷ b) → g.octets ≡ a ++ y ∷ b → ((i : ℕ) → g.is_loose i ≡ (f.is_loose i || covers (length a) 1 i))
    → (left : Option (List ℕ)) → MayLeave g left → (z : ℕ) × (left ≡ Some (a ++ z ∷ b))
one_left f a b x y g k there name least greatest octets loose None (inl gone) = absurd (true≢false (sym k.there ∙ sym there ∙ gone))
one_left f a b x y g k there name least greatest octets loose None (inr is) = absurd (false≢true (sym k.name ∙ sym name ∙ is))
one_left f a b x y g k there name least greatest octets loose (Some o) h =
    let shorter : g.least ≤ length o = h.least in
    let longer : length o ≤ g.greatest = h.greatest in
    let long : length o ≡ length (a ++ x ∷ b) = omega (arith, least, greatest, k.least) in
    let same : length (a ++ y ∷ b) ≡ length (a ++ x ∷ b) = length-append a (y ∷ b) ∙ sym (length-append a (x ∷ b)) in
    let r : (z : ℕ) × (o ≡ a ++ z ∷ b) = one_apart a b o y (omega (arith, long, same)) (λ i below apart.
    h.same i (omega (arith, least, k.least, long, below))
    (loose i ∙ or_from (f.is_loose i) (covers (length a) 1 i) (k.firm i (omega (arith, long, below)))
    (elim (cases_lt i (length a)) [ inl l ↦ covers-before (length a) 1 i l | inr g ↦ covers-behind (length a) 1 i (omega (arith, g, apart)) ]))
    ∙ ap (λ (t : List ℕ). slice_get t i) octets) in
    let e : o ≡ a ++ r.0 ∷ b = r.1 in
    (r.0, cc)

overlaid-one : (a b : List ℕ) (x y : ℕ) → overlaid (a ++ x ∷ b) (length a) (y ∷ []) ≡ a ++ y ∷ b
overlaid-one a b x y =
    let front : take (length a) (a ++ x ∷ b) ≡ a = take-append_seam a (x ∷ b) in
    let back : drop (length a + 1) (a ++ x ∷ b) ≡ b = drop-append-add a (x ∷ b) 1 in
    rw (front, back) (append_assoc a (y ∷ []) b)

pub one_octets : (f : FileState) (a b : List ℕ) (x y : ℕ) → f.octets ≡ a ++ x ∷ b → (written (length a) (y ∷ []) f).octets ≡ a ++ y ∷ b
one_octets f a b x y e = ap (λ (t : List ℕ). overlaid t (length a) (y ∷ [])) e ∙ overlaid-one a b x y

pub end_octets : (f : FileState) (text from : List ℕ) → f.octets ≡ text → (written (length text) from f).octets ≡ text ++ from
end_octets f text from e = ap (λ (t : List ℕ). overlaid t (length text) from) e ∙ overlaid-end text from

one_greatest : (f : FileState) (a b : List ℕ) (x : ℕ) → IsFirm f (a ++ x ∷ b) → max f.greatest (length a + 1) ≡ length (a ++ x ∷ b)
one_greatest f a b x k = omega (arith, k.greatest, length-append a (x ∷ b))

pub one_written_left : (f : FileState) (a b : List ℕ) (x y : ℕ) → IsFirm f (a ++ x ∷ b) → (left : Option (List ℕ)) → MayLeave (written (length a) (y ∷ []) f) left → (z : ℕ) × (left ≡ Some (a ++ z ∷ b))
one_written_left f a b x y k left h =
    one_left f a b x y (written (length a) (y ∷ []) f) k refl refl refl (one_greatest f a b x k) (one_octets f a b x y k.octets) (λ i. refl) left h

pub one_half_left : (f : FileState) (a b : List ℕ) (x : ℕ) → IsFirm f (a ++ x ∷ b) → (left : Option (List ℕ)) → MayLeave (half_written (length a) 1 f) left → (z : ℕ) × (left ≡ Some (a ++ z ∷ b))
one_half_left f a b x k left h =
    one_left f a b x x (half_written (length a) 1 f) k refl refl refl (one_greatest f a b x k) k.octets (λ i. refl) left h

-- What a crash may leave after a cut: the octets that stood before it, and perhaps others behind them.

cut_left : (f : FileState) (a b : List ℕ) (g : FileState) → IsFirm f (a ++ b) → g.is_there ≡ f.is_there → g.is_name_loose ≡ f.is_name_loose → g.least ≡ min f.least (length a)
    → length a ≤ length g.octets → take (length a) g.octets ≡ a → ((i : ℕ) → g.is_loose i ≡ f.is_loose i)
    → (left : Option (List ℕ)) → MayLeave g left → (rest : List ℕ) × (left ≡ Some (a ++ rest))
cut_left f a b g k there name least long front loose None (inl gone) = absurd (true≢false (sym k.there ∙ sym there ∙ gone))
cut_left f a b g k there name least long front loose None (inr is) = absurd (false≢true (sym k.name ∙ sym name ∙ is))
cut_left f a b g k there name least long front loose (Some o) h =
    let same : take (length a) o ≡ a =
    front_stays g o (length a) h (omega (arith, least, k.least, length-append a b)) long (λ i below. loose i ∙ k.firm i (omega (arith, below, length-append a b))) ∙ front in
    (drop (length a) o, ap Some (sym (take-append-drop (length a) o) ∙ ap (λ (t : List ℕ). t ++ drop (length a) o) same))

pub cut_octets : (f : FileState) (a b : List ℕ) → f.octets ≡ a ++ b → (cut_to (length a) f).octets ≡ a
cut_octets f a b e = ap (take (length a)) e ∙ take-append_seam a b

pub cut_to_left : (f : FileState) (a b : List ℕ) → IsFirm f (a ++ b) → (left : Option (List ℕ)) → MayLeave (cut_to (length a) f) left → (rest : List ℕ) × (left ≡ Some (a ++ rest))
cut_to_left f a b k left h =
    let octets : (cut_to (length a) f).octets ≡ a = cut_octets f a b k.octets in
    cut_left f a b (cut_to (length a) f) k refl refl refl (let l : length (cut_to (length a) f).octets ≡ length a = ap length octets in omega (arith, l)) (ap (take (length a)) octets ∙ take-length a) (λ i. refl) left h

pub half_cut_left : (f : FileState) (a b : List ℕ) → IsFirm f (a ++ b) → (left : Option (List ℕ)) → MayLeave (half_cut (length a) f) left → (rest : List ℕ) × (left ≡ Some (a ++ rest))
half_cut_left f a b k left h =
    cut_left f a b (half_cut (length a) f) k refl refl refl (let l : length f.octets ≡ length (a ++ b) = ap length k.octets in omega (arith, l, length-append a b)) (ap (take (length a)) k.octets ∙ take-append_seam a b) (λ i. refl) left h
