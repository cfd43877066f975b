-- Logs removed, one by one.
use Rattle.disk_model.proofs.BetweenLemmas.{between-after, between-same, between-since, between-back, between-on, between-if}
use Rattle.std.proofs.Common.{◌≡◌, ◌⊎◌, inl, inr, ◌||◌, Bool, true, false, Option, Some, None, IfSome, refl, sym, ◌∙◌, ap, subst}
use Rattle.std.proofs.lemmas.Bool.{cases_Bool, cond-true, cond-false, false≢true, true≢false}
use Rattle.std.specs.Option.{is_some}
use Rattle.std.specs.declared.cmp.Ordering.TheVariants.{Less}
use Rattle.disk_model.specs.Disk.{Files, FileState, DiskState, History, IsImage, IsThere, IsPast, IfTold, EachImage, AfterFailed, after, change, change_all, removed, half_removed, named, no_file, IsIdle, Between}
use Rattle.disk_model.specs.Name.{same_name, IsNameInRange, IsLogName, IsLogInRange}
use Rattle.disk_model.specs.declared.name.FileName.{FileName}
use Rattle.disk_model.specs.declared.name.FileName.TheVariants as file
use Rattle.disk_model.specs.contracts.name.FileNameOrd.TheImpl.{ghosts}
use Rattle.disk_model.proofs.MomentLemmas.{if_told-all, if_told-map, if_told-both, each_image-begins, each_image-then, each_image-goes_on, each_image-fails, each_image-fails_still}
use Rattle.disk_model.proofs.NameLemmas.{same_name-true, same_name-refl}
use Rattle.disk_model.proofs.OneFileLemmas.{named-narrows}
use Rattle.model_store.specs.Opening.{HasNoEntry}
use Rattle.store_open.specs.Making.{HasAnyLog, IsFirstLog, NeverHasEntry, AreRemoved, AreCleared}
use Rattle.disk_model.proofs.IdleLemmas.{idle-images}
use Rattle.disk_model.proofs.NameOrderLemmas.{past_other}

-- one file that is changed

apart-or-same : (name other : FileName) → (name ≡ other) ⊎ (same_name other name ≡ false)
apart-or-same name other = elim (cases_Bool (same_name other name)) [ inl same ↦ inl (sym (same_name-true other name same)) | inr apart ↦ inr apart ]

changed-is : (name other : FileName) (step : FileState → FileState) (disk : DiskState) (P : FileState → Type 0) → (name ≡ other → P (step (disk other))) → (same_name other name ≡ false → P (disk other)) → P (change name step disk other)
unfolding change
changed-is name other step disk P here there = elim (cases_Bool (same_name other name)) [
  | inl same ↦ subst P (sym (cond-true (same_name other name) (step (disk other)) (disk other) same)) (here (sym (same_name-true other name same)))
  | inr apart ↦ subst P (sym (cond-false (same_name other name) (step (disk other)) (disk other) apart)) (there apart)
]

-- a root log that never has an entry

loose_or_there : (a b : Bool) → (a || b) ≡ true → (b ≡ true) ⊎ (a ≡ true)
loose_or_there true b e = inr refl
loose_or_there false b e = inl e

never-removed : (f : FileState) → NeverHasEntry f → NeverHasEntry (removed f)
never-removed f never None leaves = tt
never-removed f never (Some octets) holds = never (Some octets) (record {
  named = elim holds.named [ inl gone ↦ absurd (false≢true gone) | inr loose ↦ loose_or_there f.is_name_loose f.is_there loose ];
  least = holds.least;
  greatest = holds.greatest;
  same = holds.same;
  are_octets = holds.are_octets;
})

never-half : (f : FileState) → IsThere f → NeverHasEntry f → NeverHasEntry (half_removed f)
never-half f there never None leaves = tt
never-half f there never (Some octets) holds = never (Some octets) (record {
  named = inl there;
  least = holds.least;
  greatest = holds.greatest;
  same = holds.same;
  are_octets = holds.are_octets;
})

pub never-named : (f : FileState) → NeverHasEntry f → NeverHasEntry (named f)
never-named f never left leaves = never left (named-narrows f left leaves)

pub never-no_file : NeverHasEntry no_file
never-no_file None leaves = tt
never-no_file (Some octets) holds = elim holds.named [ inl gone ↦ absurd (false≢true gone) | inr loose ↦ absurd (false≢true loose) ]

-- the walk

pub in_range : (last : Option FileName) → IfSome last IsLogInRange → IfSome last IsNameInRange
in_range None named = tt
in_range (Some name) named = named.1

-- Of the logs, those up to this name have been removed.
pub record AreWalked (last : Option FileName) (old now : DiskState) : Type 0 where
  pub taken : (name : FileName) → (now name ≡ old name) ⊎ ((now name ≡ removed (old name)) × IsLogName name × IsThere (old name))
  pub past : (name : FileName) → IsThere (now name) → IsPast ghosts.cmp last name
  pub first : last ≡ None → (name : FileName) → now name ≡ old name

pub record Walked (last : Option FileName) (old now : Option History) : Type 0 where
  pub named : IfSome last IsLogInRange
  pub each : IfTold old (λ disk. NeverHasEntry (disk file.Root)) → EachImage (λ _ image. HasNoEntry (image file.Root)) old now
  pub states : Between (AreWalked last) old now

-- so far the root log never has an entry
never-walked : (last : Option FileName) (old now : DiskState) → AreWalked last old now → NeverHasEntry (old file.Root) → NeverHasEntry (now file.Root)
never-walked last old now w never = elim (w.taken file.Root) [
  | inl same ↦ subst NeverHasEntry (sym same) never
  | inr gone ↦ subst NeverHasEntry (sym gone.0) (never-removed (old file.Root) never)
]

image-of-root : (disk : DiskState) → NeverHasEntry (disk file.Root) → (image : Files) → IsImage disk image → HasNoEntry (image file.Root)
image-of-root disk never image is = never (image file.Root) (is file.Root)

pub walk-begins : (old : Option History) → Walked None old old
walk-begins old = record {
  named = tt;
  each = λ never. each_image-begins _ old (if_told-map _ _ old (λ disk n m image is. image-of-root disk n image is) never);
  states = states old;
}
  where
    states : (old : Option History) → Between (AreWalked None) old old
    states None = refl
    states (Some old) = record { taken = λ name. inl refl; past = λ name there. tt; first = λ e name. refl }

-- a look for the next log
pub walk-looks : (last : Option FileName) (old now new : Option History) → Walked last old now → IsIdle now new → Walked last old new
walk-looks last old now new w idle = record {
  named = w.named;
  each = λ never. each_image-then _ old now new (w.each never)
      (idle-images (λ image. HasNoEntry (image file.Root)) now new idle
      (if_told-map _ _ now image-of-root (between-on (AreWalked last) _ _ old now (never-walked last) w.states never)));
  states = between-same (AreWalked last) old now new w.states idle.same;
}

-- a removal of the next log

removed-gone : (f : FileState) → IsThere (removed f) → ⊥
removed-gone f there = false≢true there

next-walked : (last : Option FileName) (name : FileName) (old now : DiskState) → AreWalked last old now → IsFirstLog ghosts.cmp last (Some name) now → AreWalked (Some name) old (change name removed now)
next-walked last name old now w first = record {
  taken = λ n. changed-is name n removed now (λ f. (f ≡ old n) ⊎ ((f ≡ removed (old n)) × IsLogName n × IsThere (old n)))
      (λ e. here n e) (λ apart. w.taken n);
  past = λ n. changed-is name n removed now (λ f. IsThere f → ghosts.cmp name n ≡ Less)
      (λ e there. absurd (removed-gone (now n) there))
      (λ apart there. past_other n name (λ e. false≢true (sym apart ∙ subst (λ (o : FileName). same_name n o ≡ true) e (same_name-refl n))) (first.2 n there (w.past n there)));
  first = λ e. absurd (let s : Some name ≡ None = e in cc);
}
  where
    here : (n : FileName) → name ≡ n → (removed (now n) ≡ old n) ⊎ ((removed (now n) ≡ removed (old n)) × IsLogName n × IsThere (old n))
    here n e =
        let there : IsThere (now n) = subst (λ (o : FileName). IsThere (now o)) e first.1 in
        elim (w.taken n) [
          | inl same ↦ inr (ap removed same, subst IsLogName e first.0, subst IsThere same there)
          | inr gone ↦ absurd (removed-gone (old n) (subst IsThere gone.0 there))
        ]

-- what an image has of the root log after a removal, also one that failed
root-removed : (name : FileName) (disk : DiskState) → NeverHasEntry (disk file.Root) → NeverHasEntry (change name removed disk file.Root)
root-removed name disk never = changed-is name file.Root removed disk NeverHasEntry (λ e. never-removed (disk file.Root) never) (λ apart. never)

root-half : (name : FileName) (disk : DiskState) → IsThere (disk name) → NeverHasEntry (disk file.Root) → NeverHasEntry (change name half_removed disk file.Root)
root-half name disk there never = changed-is name file.Root half_removed disk NeverHasEntry
    (λ e. never-half (disk file.Root) (subst (λ (o : FileName). IsThere (disk o)) e there) never) (λ apart. never)

never-now : (last : Option FileName) (old now : Option History) → Walked last old now → IfTold old (λ disk. NeverHasEntry (disk file.Root)) → IfTold now (λ disk. NeverHasEntry (disk file.Root))
never-now last old now w never = between-on (AreWalked last) _ _ old now (never-walked last) w.states never

pub walk-goes_on : (last : Option FileName) (name : FileName) (old now new : Option History) → Walked last old now → IfTold now (IsFirstLog ghosts.cmp last (Some name)) → IsLogInRange name
    → new ≡ after (change name removed) now → Walked (Some name) old new
walk-goes_on last name old now new w first is_named is = record {
  named = is_named;
  each = λ never. each_image-goes_on _ (change name removed) old now new (w.each never) is
      (if_told-map _ _ now (λ disk n m image i. image-of-root (change name removed disk) (root-removed name disk n) image i) (never-now last old now w never));
  states = between-after (AreWalked last) (AreWalked (Some name)) (IsFirstLog ghosts.cmp last (Some name)) (change name removed) old now new (next-walked last name) w.states first is;
}

pub walk-fails : (last : Option FileName) (name : FileName) (old now new : Option History) → Walked last old now → IfTold now (IsFirstLog ghosts.cmp last (Some name))
    → AfterFailed (change name half_removed) now new → IfTold old (λ disk. NeverHasEntry (disk file.Root)) → EachImage (λ _ image. HasNoEntry (image file.Root)) old new
walk-fails last name old now new w first failed never =
    each_image-fails _ (change name half_removed) old now new (w.each never) failed
    (if_told-both _ _ _ now (λ disk n f m image i. image-of-root (change name half_removed disk) (root-half name disk f.1 n) image i) (never-now last old now w never) first)

-- its end

none-left : (last : Option FileName) (old now : DiskState) → AreWalked last old now → IsFirstLog ghosts.cmp last None now → (name : FileName) → IsLogName name → IsThere (now name) → ⊥
none-left last old now w first name log there = first name log there (w.past name there)

all-taken : (last : Option FileName) (old now : DiskState) → AreWalked last old now → IsFirstLog ghosts.cmp last None now → AreRemoved old now
all-taken last old now w first = λ name. record {
  gone = λ log there. elim (w.taken name) [
    | inl same ↦ absurd (none-left last old now w first name log (subst IsThere (sym same) there))
    | inr gone ↦ gone.0
  ];
  stays = λ other. elim (w.taken name) [
    | inl same ↦ same
    | inr gone ↦ absurd (other gone.1 gone.2)
  ];
}

pub walk-ends : (last : Option FileName) (old now : Option History) → Walked last old now → IfTold now (IsFirstLog ghosts.cmp last None) → Between AreRemoved old now
walk-ends last old now w first = between-since (AreWalked last) AreRemoved (IsFirstLog ghosts.cmp last None) old now (all-taken last) w.states first

none-was : (last : Option FileName) → last ≡ None → (old now : DiskState) → AreWalked last old now → IsFirstLog ghosts.cmp last None now → HasAnyLog old → ⊥
none-was last e old now w first log = none-left last old now w first log.0 log.1 (subst IsThere (sym (w.first e log.0)) log.2)

pub walk-none : (last : Option FileName) (old now : Option History) → last ≡ None → Walked last old now → IfTold now (IsFirstLog ghosts.cmp last None) → IfTold old (λ disk. HasAnyLog disk → ⊥)
walk-none last old now e w first = between-back (AreWalked last) _ _ old now (none-was last e) w.states first

-- with the names synced

never-taken : (old now : DiskState) → AreRemoved old now → NeverHasEntry (old file.Root) → NeverHasEntry (now file.Root)
never-taken old now t never = elim (cases_Bool (old file.Root).is_there) [
  | inl there ↦ subst NeverHasEntry (sym ((t file.Root).gone refl there)) (never-removed (old file.Root) never)
  | inr gone ↦ subst NeverHasEntry (sym ((t file.Root).stays (λ log there. true≢false (sym there ∙ gone)))) never
]

pub cleared-images : (old now new : Option History) → Between AreRemoved old now → (IfTold old (λ disk. NeverHasEntry (disk file.Root)) → EachImage (λ _ image. HasNoEntry (image file.Root)) old now)
    → new ≡ after (change_all named) now → IfTold old (λ disk. NeverHasEntry (disk file.Root)) → EachImage (λ _ image. HasNoEntry (image file.Root)) old new
cleared-images old now new taken each is never =
    each_image-goes_on _ (change_all named) old now new (each never) is
    (if_told-map _ _ now (λ disk n m image i. image-of-root (change_all named disk) (never-named (disk file.Root) n) image i)
    (between-on AreRemoved _ _ old now never-taken taken never))

pub cleared-fails : (old now new : Option History) → (IfTold old (λ disk. NeverHasEntry (disk file.Root)) → EachImage (λ _ image. HasNoEntry (image file.Root)) old now)
    → AfterFailed (λ disk. disk) now new → IfTold old (λ disk. NeverHasEntry (disk file.Root)) → EachImage (λ _ image. HasNoEntry (image file.Root)) old new
cleared-fails old now new each failed never = each_image-fails_still _ old now new (each never) failed (λ m image is. is)

nothing-cleared : (old now : DiskState) → AreRemoved old now → (HasAnyLog old → ⊥) → AreCleared old now
nothing-cleared old now t none = λ name. record {
  gone = λ log there. absurd (none (name, log, there));
  stays = λ other. inl ((t name).stays other);
}

pub cleared-none : (old now : Option History) → Between AreRemoved old now → IfTold old (λ disk. HasAnyLog disk → ⊥) → Between AreCleared old now
cleared-none old now taken none = between-if AreRemoved AreCleared _ old now nothing-cleared taken none

-- the root log never has an entry, once logs are cleared
pub never-cleared : (old new : DiskState) → AreCleared old new → NeverHasEntry (old file.Root) → NeverHasEntry (new file.Root)
never-cleared old new c never = elim (cases_Bool (old file.Root).is_there) [
  | inl there ↦ subst NeverHasEntry (sym ((c file.Root).gone refl there)) never-no_file
  | inr gone ↦ elim ((c file.Root).stays (λ log there. true≢false (sym there ∙ gone))) [
    | inl same ↦ subst NeverHasEntry (sym same) never
    | inr is ↦ subst NeverHasEntry (sym is) (never-named (old file.Root) never)
  ]
]

-- no log was removed
pub none_of : (last : Option FileName) → is_some last ≡ false → last ≡ None
none_of None e = refl
none_of (Some name) e = absurd (true≢false e)

named-cleared : (old now : DiskState) → AreRemoved old now → AreCleared old (change_all named now)
named-cleared old now t = λ name. record {
  gone = λ log there. ap named ((t name).gone log there);
  stays = λ other. inr (ap named ((t name).stays other));
}

pub cleared-synced : (old now new : Option History) → Between AreRemoved old now → new ≡ after (change_all named) now → Between AreCleared old new
cleared-synced old now new taken is =
    between-after AreRemoved AreCleared (λ _. Unit {0}) (change_all named) old now new (λ a b t u. named-cleared a b t) taken (if_told-all _ now (λ disk. tt)) is
