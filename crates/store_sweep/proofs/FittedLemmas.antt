-- Storage files that stay as they were or are cut and synced, files that stay there, and names that are synced where a file
-- was removed.
use Rattle.std.proofs.Common.{inl, inr, ◌≡◌, ◌≢◌, ◌⊎◌, ℕ, suc, zero, Bool, true, false, not, List, [], ◌∷◌, length, take, Option, refl, sym, ◌∙◌, ap, subst}
use Rattle.std.proofs.lemmas.Bool.{cases_Bool, cases_eq, true≢false, false≢true, cond-true, cond-false, not_from_false}
use Rattle.disk_model.specs.Disk.{FileState, DiskState, History, IfTold, IsThere, Unchanged, SameState, after, change, change_all, named, no_file, cut_to, synced}
use Rattle.disk_model.specs.Name.{same_name}
use Rattle.disk_model.specs.declared.name.FileName.{FileName}
use Rattle.disk_model.specs.declared.name.FileName.TheVariants as file
use Rattle.disk_model.proofs.NameLemmas.{same_name-true, same_name-eq}
use Rattle.disk_model.proofs.OneFileLemmas.{change-here, change-other}
use Rattle.disk_model.proofs.IdleLemmas.{same_state-back}
use Rattle.disk_model.proofs.BetweenLemmas.{between-begins, between-then, between-map, between-if, between-since, between-on, between-step, between-goes_on}
use Rattle.model_meaning.specs.MapMeaning.{MapMeaning, is_sealed}
use Rattle.store_files.specs.Regions.{end_of}
use Rattle.store_sweep.specs.Wanted.{is_wanted}
use Rattle.store_sweep.specs.Moments.{SameWhere, SameThere, KeepsWanted, SameContent, IsFirm, IsCutToRegions, IsFitted, AreFitted, NamesSynced}

-- ---- one storage file

same_content : (f g : FileState) → g ≡ f → SameContent f g
same_content f g e = record { octets = ap (λ (h : FileState). h.octets) e; least = ap (λ (h : FileState). h.least) e; greatest = ap (λ (h : FileState). h.greatest) e; firm = λ i. ap (λ (h : FileState). h.is_loose i) e }

content_then : (f g h : FileState) → SameContent f g → SameContent g h → SameContent f h
content_then f g h a b = record { octets = b.octets ∙ a.octets; least = b.least ∙ a.least; greatest = b.greatest ∙ a.greatest; firm = λ i. b.firm i ∙ a.firm i }

content_synced : (f g : FileState) → SameContent f g → IsFirm f → IsFirm g
content_synced f g s k = record {
  least = s.least ∙ k.least ∙ sym (ap length s.octets);
  greatest = s.greatest ∙ k.greatest ∙ sym (ap length s.octets);
  firm = λ i. s.firm i ∙ k.firm i;
}

take_twice : (n : ℕ) (xs : List ℕ) → take n (take n xs) ≡ take n xs
take_twice zero xs = refl
take_twice (suc n) [] = refl
take_twice (suc n) (x ∷ xs) = ap (λ (t : List ℕ). x ∷ t) (take_twice n xs)

cut_then : (m : MapMeaning) (n : ℕ) (f g h : FileState) → SameContent f g ⊎ IsCutToRegions m n f g → SameContent g h ⊎ IsCutToRegions m n g h → SameContent f h ⊎ IsCutToRegions m n f h
cut_then m n f g h (inl a) (inl b) = inl (content_then f g h a b)
cut_then m n f g h (inr a) (inl b) = inr (record { unsealed = a.unsealed; octets = b.octets ∙ a.octets; synced = content_synced g h b a.synced })
cut_then m n f g h (inl a) (inr b) = inr (record { unsealed = b.unsealed; octets = b.octets ∙ ap (take (end_of m n)) a.octets; synced = b.synced })
cut_then m n f g h (inr a) (inr b) = inr (record { unsealed = b.unsealed; octets = b.octets ∙ ap (take (end_of m n)) a.octets ∙ take_twice (end_of m n) f.octets; synced = b.synced })

fitted_file-then : (m : MapMeaning) (n : ℕ) (f g h : FileState) → IsFitted m n f g → IsFitted m n g h → IsFitted m n f h
fitted_file-then m n f g h a b = record { was = a.was; name = λ loose. a.name (b.name loose); content = cut_then m n f g h a.content b.content }

fitted_same : (m : MapMeaning) (n : ℕ) (f g : FileState) → g ≡ f → IsThere g → IsFitted m n f g
fitted_same m n f g e there = record {
  was = subst IsThere e there;
  name = λ loose. sym (ap (λ (h : FileState). h.is_name_loose) e) ∙ loose;
  content = inl (same_content f g e);
}

-- ---- all of them

-- each storage file that is there is fitted
abbrev Fitted : MapMeaning → DiskState → DiskState → Type 0
Fitted m old new = (n : ℕ) → IsThere (new (file.Mail n)) → IsFitted m n (old (file.Mail n)) (new (file.Mail n))

fitted_still : (m : MapMeaning) (disk : DiskState) → Fitted m disk disk
fitted_still m disk = λ n there. fitted_same m n (disk (file.Mail n)) (disk (file.Mail n)) refl there

pub fitted-begins : (m : MapMeaning) (old : Option History) → AreFitted m old old
fitted-begins m old = between-begins (Fitted m) old (λ disk. fitted_still m disk)

pub fitted-then : (m : MapMeaning) (old now new : Option History) → AreFitted m old now → AreFitted m now new → AreFitted m old new
fitted-then m old now new first second =
    between-then (Fitted m) (Fitted m) (Fitted m) old now new
    (λ a b c p q n there. fitted_file-then m n (a (file.Mail n)) (b (file.Mail n)) (c (file.Mail n)) (p n (q n there).was) (q n there)) first second

pub fitted-goes_on : (m : MapMeaning) (old now new : Option History) → AreFitted m old now → Unchanged now new → AreFitted m old new
fitted-goes_on m old now new fitted unchanged = between-goes_on (Fitted m) old now new fitted unchanged

pub fitted-call : (m : MapMeaning) (old new : Option History) → Unchanged old new → AreFitted m old new
fitted-call m old new unchanged = fitted-goes_on m old old new (fitted-begins m old) unchanged

-- files of these names stay, and no other is there
pub fitted-where : (m : MapMeaning) (test : FileName → Bool) (old new : Option History) → SameWhere test old new → IfTold new (λ disk. (name : FileName) → IsThere (disk name) → test name ≡ true) → AreFitted m old new
fitted-where m test old new same gone =
    between-since (λ a b. (name : FileName) → test name ≡ true → b name ≡ a name) (Fitted m) (λ disk. (name : FileName) → IsThere (disk name) → test name ≡ true) old new
    (λ a b stay all n there. fitted_same m n (a (file.Mail n)) (b (file.Mail n)) (stay (file.Mail n) (all (file.Mail n) there)) there) same gone

-- each storage file stays
pub fitted-mail : (m : MapMeaning) (test : FileName → Bool) (old new : Option History) → ((n : ℕ) → test (file.Mail n) ≡ true) → SameWhere test old new → AreFitted m old new
fitted-mail m test old new passes same =
    between-map (λ a b. (name : FileName) → test name ≡ true → b name ≡ a name) (Fitted m) old new
    (λ a b stay n there. fitted_same m n (a (file.Mail n)) (b (file.Mail n)) (stay (file.Mail n) (passes n)) there) same

-- one that was cut and synced
both_calls : ℕ → ℕ → DiskState → DiskState
both_calls n end disk = change (file.Mail n) synced (change (file.Mail n) (cut_to end) disk)

shortened_here : (n end : ℕ) (disk : DiskState) → both_calls n end disk (file.Mail n) ≡ synced (cut_to end (disk (file.Mail n)))
unfolding both_calls
shortened_here n end disk = change-here (file.Mail n) synced (change (file.Mail n) (cut_to end) disk) ∙ ap synced (change-here (file.Mail n) (cut_to end) disk)

shortened_other : (n end : ℕ) (disk : DiskState) (other : FileName) → other ≢ file.Mail n → both_calls n end disk other ≡ disk other
unfolding both_calls
shortened_other n end disk other apart = change-other (file.Mail n) other synced (change (file.Mail n) (cut_to end) disk) apart ∙ change-other (file.Mail n) other (cut_to end) disk apart

shortened_file : (m : MapMeaning) (n end : ℕ) (f g : FileState) → is_sealed m n ≡ false → end ≡ end_of m n → g ≡ synced (cut_to end f) → IsThere g → IsFitted m n f g
shortened_file m n end f g unsealed is e there = record {
  was = sym (ap (λ (h : FileState). h.is_there) e) ∙ there;
  name = λ loose. sym (ap (λ (h : FileState). h.is_name_loose) e) ∙ loose;
  content = inr (record {
    unsealed = unsealed;
    octets = ap (λ (h : FileState). h.octets) e ∙ ap (λ (k : ℕ). take k f.octets) is;
    synced = subst IsFirm (sym e) (record { least = refl; greatest = refl; firm = λ i. refl });
  });
}

mail_number : (a b : ℕ) → file.Mail a ≡ file.Mail b → a ≡ b
mail_number a b e = cc

shortened_each : (m : MapMeaning) (n end : ℕ) (disk : DiskState) → is_sealed m n ≡ false → end ≡ end_of m n → Fitted m disk (both_calls n end disk)
shortened_each m n end disk unsealed is k there = elim (cases_eq k n) [
  | inl same ↦
      let F : ℕ → Type 0 = λ q. IsThere (both_calls n end disk (file.Mail q)) in
      let G : ℕ → Type 0 = λ q. IsFitted m q (disk (file.Mail q)) (both_calls n end disk (file.Mail q)) in
      subst G (sym same) (shortened_file m n end (disk (file.Mail n)) (both_calls n end disk (file.Mail n)) unsealed is (shortened_here n end disk) (subst F same there))
  | inr apart ↦ fitted_same m k (disk (file.Mail k)) (both_calls n end disk (file.Mail k)) (shortened_other n end disk (file.Mail k) (λ s. apart (mail_number k n s))) there
]

pub fitted-shortened : (m : MapMeaning) (n end : ℕ) (old mid new : Option History) → is_sealed m n ≡ false → end ≡ end_of m n → mid ≡ after (change (file.Mail n) (cut_to end)) old → new ≡ after (change (file.Mail n) synced) mid → AreFitted m old new
unfolding both_calls
fitted-shortened m n end old mid new unsealed is cut sync =
    between-then (λ a b. b ≡ change (file.Mail n) (cut_to end) a) (λ b c. c ≡ change (file.Mail n) synced b) (Fitted m) old mid new
    (λ a b c first second.
    let e : c ≡ change (file.Mail n) synced (change (file.Mail n) (cut_to end) a) = second ∙ ap (change (file.Mail n) synced) first in
    subst (Fitted m a) (sym e) (shortened_each m n end a unsealed is))
    (between-step _ (change (file.Mail n) (cut_to end)) old mid cut (λ disk. refl)) (between-step _ (change (file.Mail n) synced) mid new sync (λ disk. refl))

-- and a sync of names
named_there : (f : FileState) → (named f).is_there ≡ f.is_there
named_there f = elim (cases_Bool f.is_there) [
  | inl own ↦ ap (λ (h : FileState). h.is_there) (cond-true f.is_there (record f { is_name_loose = false }) no_file own)
  | inr gone ↦ ap (λ (h : FileState). h.is_there) (cond-false f.is_there (record f { is_name_loose = false }) no_file gone) ∙ sym gone
]

named_firm : (f : FileState) → (named f).is_name_loose ≡ false
named_firm f = elim (cases_Bool f.is_there) [
  | inl own ↦ ap (λ (h : FileState). h.is_name_loose) (cond-true f.is_there (record f { is_name_loose = false }) no_file own)
  | inr gone ↦ ap (λ (h : FileState). h.is_name_loose) (cond-false f.is_there (record f { is_name_loose = false }) no_file gone)
]

named_file : (m : MapMeaning) (n : ℕ) (f : FileState) → IsThere (named f) → IsFitted m n f (named f)
named_file m n f there =
    let own : IsThere f = sym (named_there f) ∙ there in
    let e : named f ≡ record f { is_name_loose = false } = cond-true f.is_there (record f { is_name_loose = false }) no_file own in
    record {
      was = own;
      name = λ loose. absurd (false≢true (sym (named_firm f) ∙ loose));
      content = inl (record { octets = ap (λ (h : FileState). h.octets) e; least = ap (λ (h : FileState). h.least) e; greatest = ap (λ (h : FileState). h.greatest) e; firm = λ i. ap (λ (h : FileState). h.is_loose i) e });
    }

pub fitted-named : (m : MapMeaning) (old new : Option History) → new ≡ after (change_all named) old → AreFitted m old new
fitted-named m old new is = between-step (Fitted m) (change_all named) old new is (λ disk n there. named_file m n (disk (file.Mail n)) there)

-- ---- files that stay there

abbrev There : DiskState → DiskState → Type 0
There old new = (name : FileName) → (new name).is_there ≡ (old name).is_there

pub there-begins : (old : Option History) → SameThere old old
there-begins old = between-begins There old (λ disk name. refl)

pub there-then : (old now new : Option History) → SameThere old now → SameThere now new → SameThere old new
there-then old now new first second = between-then There There There old now new (λ a b c p q name. q name ∙ p name) first second

pub there-goes_on : (old now new : Option History) → SameThere old now → Unchanged now new → SameThere old new
there-goes_on old now new there unchanged = between-goes_on There old now new there unchanged

pub there-call : (old new : Option History) → Unchanged old new → SameThere old new
there-call old new unchanged = there-goes_on old old new (there-begins old) unchanged

-- a change of one file that leaves it there or not
there_changed : (name : FileName) (step : FileState → FileState) → ((f : FileState) → (step f).is_there ≡ f.is_there) → (disk : DiskState) → There disk (change name step disk)
there_changed name step same disk other = elim (cases_Bool (same_name other name)) [
  | inl own ↦
      let e : other ≡ name = same_name-true other name own in
      let F : FileName → Type 0 = λ n. (change name step disk n).is_there ≡ (disk n).is_there in
      subst F (sym e) (ap (λ (f : FileState). f.is_there) (change-here name step disk) ∙ same (disk name))
  | inr apart ↦ ap (λ (f : FileState). f.is_there) (change-other name other step disk (λ e. true≢false (sym (same_name-eq other name e) ∙ apart)))
]

pub there-step : (name : FileName) (step : FileState → FileState) (old new : Option History) → new ≡ after (change name step) old → ((f : FileState) → (step f).is_there ≡ f.is_there) → SameThere old new
there-step name step old new is same = between-step There (change name step) old new is (λ disk. there_changed name step same disk)

pub there-named : (old new : Option History) → new ≡ after (change_all named) old → SameThere old new
there-named old new is = between-step There (change_all named) old new is (λ disk name. named_there (disk name))

-- what is there afterwards was there
pub there-back : (P : FileName → Type 0) (old new : Option History) → SameThere old new → IfTold old (λ disk. (name : FileName) → IsThere (disk name) → P name) → IfTold new (λ disk. (name : FileName) → IsThere (disk name) → P name)
there-back P old new same holds =
    between-on There (λ disk. (name : FileName) → IsThere (disk name) → P name) (λ disk. (name : FileName) → IsThere (disk name) → P name) old new (λ a b s all name there. all name (sym (s name) ∙ there)) same holds

-- ---- files that the store needs

abbrev Kept : ℕ → MapMeaning → DiskState → DiskState → Type 0
Kept g m old new = (name : FileName) → is_wanted g m name ≡ true → IsThere (old name) → IsThere (new name)

pub kept-then : (g : ℕ) (m : MapMeaning) (old now new : Option History) → KeepsWanted g m old now → KeepsWanted g m now new → KeepsWanted g m old new
kept-then g m old now new first second = between-then (Kept g m) (Kept g m) (Kept g m) old now new (λ a b c p q name wanted there. q name wanted (p name wanted there)) first second

pub kept-there : (g : ℕ) (m : MapMeaning) (old new : Option History) → SameThere old new → KeepsWanted g m old new
kept-there g m old new same = between-map There (Kept g m) old new (λ a b s name wanted there. s name ∙ there) same

pub kept-where : (g : ℕ) (m : MapMeaning) (old new : Option History) → SameWhere (is_wanted g m) old new → KeepsWanted g m old new
kept-where g m old new same =
    between-map (λ a b. (name : FileName) → is_wanted g m name ≡ true → b name ≡ a name) (Kept g m) old new (λ a b s name wanted there. subst IsThere (sym (s name wanted)) there) same

-- ---- names

abbrev Names : ℕ → MapMeaning → DiskState → DiskState → Type 0
Names g m old new = (stray : FileName) → IsThere (old stray) → is_wanted g m stray ≡ false → (name : FileName) → (new name).is_name_loose ≡ false

-- nothing was removed, and nothing stray is there
pub names-unneeded : (g : ℕ) (m : MapMeaning) (old mid new : Option History) → SameState old mid → IfTold mid (λ disk. (name : FileName) → IsThere (disk name) → is_wanted g m name ≡ true) → SameThere mid new → NamesSynced g m old new
names-unneeded g m old mid new same gone there =
    let wanted : DiskState → Type 0 = λ disk. (name : FileName) → IsThere (disk name) → is_wanted g m name ≡ true in
    between-if (λ a b. Unit {0}) (Names g m) wanted old new (λ a b u all stray here away. absurd (true≢false (sym (all stray here) ∙ away)))
    (between-then (λ a b. b ≡ a) There (λ a b. Unit {0}) old mid new (λ a b c p q. tt) same there) (same_state-back wanted old mid same gone)

pub names-named : (g : ℕ) (m : MapMeaning) (old mid new : Option History) → AreFitted m old mid → new ≡ after (change_all named) mid → NamesSynced g m old new
names-named g m old mid new told is =
    between-then (Fitted m) (λ b c. (name : FileName) → (c name).is_name_loose ≡ false) (Names g m) old mid new (λ a b c p q stray here away. q) told
    (between-step _ (change_all named) mid new is (λ disk name. named_firm (disk name)))

-- the stray files are those of before
pub names-since : (g : ℕ) (m : MapMeaning) (old mid new : Option History) → SameWhere (λ name. not (is_wanted g m name)) old mid → NamesSynced g m mid new → NamesSynced g m old new
names-since g m old mid new same names =
    between-then (λ a b. (name : FileName) → not (is_wanted g m name) ≡ true → b name ≡ a name) (Names g m) (Names g m) old mid new
    (λ a b c s q stray here away. q stray (subst IsThere (sym (s stray (not_from_false (is_wanted g m stray) away))) here) away) same names
