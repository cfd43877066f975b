-- A file to which octets are added in several writes.
use Rattle.std.proofs.Common.{◌≡◌, Bool, ℕ, ◌<◌, ◌+◌, List, [], ◌++◌, length, take, slice_get, Option, Some, None, false, All, refl, sym, ◌∙◌, subst, ap, arith, append_assoc, append-nil, length-append}
use Rattle.std.specs.Option.{option_map}
use Rattle.std.proofs.Math.ListN.{get_or-append}
use Rattle.std.proofs.lemmas.List.{nil_from_length}
use Rattle.std.proofs.lemmas.List.Elements.{All-append}
use Rattle.disk_model.specs.Disk.{FileState, History, SameButFor, MayLeave, Reaches, IfTold, Between, AfterFailed, after, change, written, half_written, overlaid, synced, IsThere}
use Rattle.disk_model.specs.declared.name.FileName.{FileName}
use Rattle.disk_model.proofs.OneFileLemmas.{Along, along-begins, along-fails, along-fails_still, along-goes_on, change-here}
use Rattle.disk_model.proofs.BetweenLemmas.{between-after}
use Rattle.disk_model.proofs.MomentLemmas.{if_told-all}
use Rattle.disk_model.proofs.FirmLemmas.{at_place}
use Rattle.disk_model.proofs.LeavingLemmas.{overlaid-end}
use Rattle.storage_files.specs.Adding.{AreAddedOn, IsAddedOn, KeepsFront}
use Rattle.storage_files.proofs.AddLemmas.{AreOctets, P, Stands, front_left, not_covered, end_octets, added_file}
use Rattle.storage_files.specs.OnDisk.{IsAddedTo}

-- ---- the file

added_start : (end : ℕ) (f : FileState) → Stands end f → IsAddedOn end [] f f
added_start end f s = record {
  there = s.there;
  long = s.long;
  low = s.least;
  high = s.greatest;
  first_octets = s.are_octets;
  still_there = refl;
  still_named = refl;
  least = refl;
  greatest = (let l = s.long in let g = s.greatest in omega (arith, l, g));
  reads = sym (append-nil f.octets);
  firm = λ i below firm. firm;
  octets_fit = s.are_octets;
}

-- where it ends
ends_at : (end : ℕ) (octets : List ℕ) (f g : FileState) → IsAddedOn end octets f g → length g.octets ≡ end + length octets
ends_at end octets f g h = let all = ap length h.reads in let one = length-append f.octets octets in let long = h.long in omega (arith, all, one, long)

put_octets : (end at : ℕ) (octets more : List ℕ) (f g : FileState) → IsAddedOn end octets f g → at ≡ end + length octets → overlaid g.octets at more ≡ g.octets ++ more
put_octets end at octets more f g h is = subst (λ (n : ℕ). overlaid g.octets n more ≡ g.octets ++ more) (ends_at end octets f g h ∙ sym is) (overlaid-end g.octets more)

added_more : (end at : ℕ) (octets more : List ℕ) (f g : FileState) → IsAddedOn end octets f g → at ≡ end + length octets → AreOctets more → IsAddedOn end (octets ++ more) f (written at more g)
added_more end at octets more f g h is fit =
    let put = put_octets end at octets more f g h is in
    let long : length (overlaid g.octets at more) ≡ length g.octets + length more = ap length put ∙ length-append g.octets more in
    let ends = ends_at end octets f g h in
    record {
      there = h.there;
      long = h.long;
      low = h.low;
      high = h.high;
      first_octets = h.first_octets;
      still_there = h.still_there;
      still_named = h.still_named;
      least = h.least;
      greatest = omega (arith, long, ends, is);
      reads = put ∙ ap (λ (xs : List ℕ). xs ++ more) h.reads ∙ append_assoc f.octets octets more;
      firm = λ i below firm. not_covered at (length more) i g (omega (arith, is, below)) (h.firm i below firm);
      octets_fit = subst (λ (xs : List ℕ). All (λ octet. octet < 256) xs) (sym put) (All-append (λ octet. octet < 256) g.octets more h.octets_fit fit);
    }

-- what a crash leaves below where it ended first
first_stands : (end : ℕ) (octets : List ℕ) (f g : FileState) → IsAddedOn end octets f g → Stands end f
first_stands end octets f g h = record { there = h.there; long = h.long; least = h.low; greatest = h.high; are_octets = h.first_octets }

same_front : (end : ℕ) (octets : List ℕ) (f g : FileState) → IsAddedOn end octets f g → (i : ℕ) → i < end → slice_get g.octets i ≡ slice_get f.octets i
same_front end octets f g h i below =
    let l = h.long in
    let one = length-append f.octets octets in
    ap (λ (o : List ℕ). slice_get o i) h.reads ∙ at_place (f.octets ++ octets) f.octets i (omega (arith, one, l, below)) (omega (arith, l, below)) (get_or-append f.octets octets 0 i (omega (arith, l, below)))

added_left : (end : ℕ) (octets : List ℕ) (f g : FileState) → IsAddedOn end octets f g → (left : Option (List ℕ)) → MayLeave g left → MayLeave f (option_map (take end) left)
added_left end octets f g h left may =
    let least = h.least in
    front_left end f g (first_stands end octets f g h) h.still_there h.still_named (omega (arith, least)) (λ i below firm. (h.firm i below firm, same_front end octets f g h i below)) left may

half_left : (end at n : ℕ) (octets : List ℕ) (f g : FileState) → IsAddedOn end octets f g → at ≡ end + length octets → (left : Option (List ℕ)) → MayLeave (half_written at n g) left → MayLeave f (option_map (take end) left)
half_left end at n octets f g h is left may =
    let least = h.least in
    front_left end f (half_written at n g) (first_stands end octets f g h) h.still_there h.still_named (omega (arith, least))
    (λ i below firm. (not_covered at n i g (omega (arith, is, below)) (h.firm i below firm), same_front end octets f g h i below)) left may

-- ---- the disk

pub begin_adding : (name : FileName) (end : ℕ) (old : Option History) → IfTold old (λ disk. Stands end (disk name)) → AreAddedOn name end [] old old
begin_adding name end None s = record { images = refl; others = refl; added = refl }
begin_adding name end (Some old) s =
    let a = along-begins name (P name end (Some old)) (Some old) (λ left may. added_left end [] (old.now name) (old.now name) (added_start end (old.now name) s) left may) in
    record { images = a.each; others = a.same; added = added_start end (old.now name) s }

along_of : (name : FileName) (end : ℕ) (octets : List ℕ) (first now : Option History) → AreAddedOn name end octets first now → Along name (P name end first) first now
along_of name end octets first now h = record { each = h.images; same = h.others }

-- what the next write asks
pub next_reaches : (name : FileName) (end at : ℕ) (octets : List ℕ) (first now : Option History) → AreAddedOn name end octets first now → at ≡ end + length octets → IfTold now (λ disk. Reaches (disk name) at)
next_reaches name end at octets None None h is = tt
next_reaches name end at octets None (Some now) h is = absurd (let e : Some now ≡ None = h.added in cc)
next_reaches name end at octets (Some first) None h is = elim h.added [ ]
next_reaches name end at octets (Some first) (Some now) h is =
    let l = ends_at end octets (first.now name) (now.now name) h.added in (h.added.still_there ∙ h.added.there, omega (arith, l, is))

-- what it leaves
written_holds : (name : FileName) (end at : ℕ) (octets more : List ℕ) (first now : Option History) → AreAddedOn name end octets first now → at ≡ end + length octets → AreOctets more
    → IfTold now (λ disk. (left : Option (List ℕ)) → MayLeave (written at more (disk name)) left → P name end first left)
written_holds name end at octets more None None h is fit = tt
written_holds name end at octets more None (Some now) h is fit = absurd (let e : Some now ≡ None = h.added in cc)
written_holds name end at octets more (Some first) None h is fit = elim h.added [ ]
written_holds name end at octets more (Some first) (Some now) h is fit = λ left may.
    added_left end (octets ++ more) (first.now name) (written at more (now.now name)) (added_more end at octets more (first.now name) (now.now name) h.added is fit) left may

half_holds : (name : FileName) (end at n : ℕ) (octets : List ℕ) (first now : Option History) → AreAddedOn name end octets first now → at ≡ end + length octets
    → IfTold now (λ disk. (left : Option (List ℕ)) → MayLeave (half_written at n (disk name)) left → P name end first left)
half_holds name end at n octets None None h is = tt
half_holds name end at n octets None (Some now) h is = absurd (let e : Some now ≡ None = h.added in cc)
half_holds name end at n octets (Some first) None h is = elim h.added [ ]
half_holds name end at n octets (Some first) (Some now) h is = λ left may. half_left end at n octets (first.now name) (now.now name) h.added is left may

-- the next write
pub write_added : (name : FileName) (end at : ℕ) (octets more : List ℕ) (first now new : Option History) → AreAddedOn name end octets first now → at ≡ end + length octets → AreOctets more → new ≡ after (change name (written at more)) now → AreAddedOn name end (octets ++ more) first new
write_added name end at octets more first now new h is fit goes =
    let a = along-goes_on name (P name end first) (written at more) first now new (along_of name end octets first now h) goes (written_holds name end at octets more first now h is fit) in
    record { images = a.each; others = a.same; added = between first now h.added goes }
  where
    between : (o n : Option History) → Between (λ a b. IsAddedOn end octets (a name) (b name)) o n → new ≡ after (change name (written at more)) n → Between (λ a b. IsAddedOn end (octets ++ more) (a name) (b name)) o new
    between None None b g = g
    between None (Some n) b g = absurd (let e : Some n ≡ None = b in cc)
    between (Some o) None b g = elim b [ ]
    between (Some o) (Some n) b g =
        subst (λ (k : Option History). Between (λ a c. IsAddedOn end (octets ++ more) (a name) (c name)) (Some o) k) (sym g)
        (subst (λ (f : FileState). IsAddedOn end (octets ++ more) (o.now name) f) (sym (change-here name (written at more) n.now)) (added_more end at octets more (o.now name) (n.now name) b is fit))

pub write_failed : (name : FileName) (end at n : ℕ) (octets : List ℕ) (first now new : Option History) → AreAddedOn name end octets first now → at ≡ end + length octets → AfterFailed (change name (half_written at n)) now new → KeepsFront name end first new
write_failed name end at n octets first now new h is failed =
    along-fails name (P name end first) (half_written at n) first now new (along_of name end octets first now h) failed (half_holds name end at n octets first now h is)

-- ---- the sync behind

abbrev stilled : Bool → List ℕ → Bool → FileState
stilled there octets named = record { is_there = there; octets = octets; least = length octets; greatest = length octets; is_loose = λ _. false; is_name_loose = named }

same_synced : (f g : FileState) → f.is_there ≡ g.is_there → f.octets ≡ g.octets → f.is_name_loose ≡ g.is_name_loose → synced f ≡ synced g
same_synced f g there octets named =
    ap (λ (t : Bool). stilled t f.octets f.is_name_loose) there ∙ ap (λ (o : List ℕ). stilled g.is_there o f.is_name_loose) octets ∙ ap (λ (n : Bool). stilled g.is_there g.octets n) named

synced_added : (end : ℕ) (octets : List ℕ) (f g : FileState) → IsAddedOn end octets f g → AreOctets octets → IsAddedTo octets f (synced g)
synced_added end octets f g h fit =
    let s = first_stands end octets f g h in
    let is : synced g ≡ synced (written end octets f) = same_synced g (written end octets f) h.still_there (h.reads ∙ sym (end_octets end octets f s)) h.still_named in
    let F : FileState → Type 0 = λ k. IsAddedTo octets f k in
    subst F (sym is) (added_file end octets f fit s)

synced_left : (end : ℕ) (octets : List ℕ) (f g : FileState) → IsAddedOn end octets f g → (left : Option (List ℕ)) → MayLeave (synced g) left → MayLeave f (option_map (take end) left)
synced_left end octets f g h left may =
    let low = h.low in
    let l = ends_at end octets f g h in
    front_left end f (synced g) (first_stands end octets f g h) h.still_there h.still_named (omega (arith, low, l)) (λ i below firm. (refl, same_front end octets f g h i below)) left may

synced_holds : (name : FileName) (end : ℕ) (octets : List ℕ) (first now : Option History) → AreAddedOn name end octets first now
    → IfTold now (λ disk. (left : Option (List ℕ)) → MayLeave (synced (disk name)) left → P name end first left)
synced_holds name end octets None None h = tt
synced_holds name end octets None (Some now) h = absurd (let e : Some now ≡ None = h.added in cc)
synced_holds name end octets (Some first) None h = elim h.added [ ]
synced_holds name end octets (Some first) (Some now) h = λ left may. synced_left end octets (first.now name) (now.now name) h.added left may

pub sync_there : (name : FileName) (end : ℕ) (octets : List ℕ) (first now : Option History) → AreAddedOn name end octets first now → IfTold now (λ disk. IsThere (disk name))
sync_there name end octets None None h = tt
sync_there name end octets None (Some now) h = absurd (let e : Some now ≡ None = h.added in cc)
sync_there name end octets (Some first) None h = elim h.added [ ]
sync_there name end octets (Some first) (Some now) h = h.added.still_there ∙ h.added.there

pub sync_failed : (name : FileName) (end : ℕ) (octets : List ℕ) (first now new : Option History) → AreAddedOn name end octets first now → AfterFailed (λ disk. disk) now new → KeepsFront name end first new
sync_failed name end octets first now new h failed = along-fails_still name (P name end first) first now new (along_of name end octets first now h) failed

along_synced : (name : FileName) (end : ℕ) (octets : List ℕ) (first now new : Option History) → AreAddedOn name end octets first now → new ≡ after (change name synced) now → Along name (P name end first) first new
along_synced name end octets first now new h goes = along-goes_on name (P name end first) synced first now new (along_of name end octets first now h) goes (synced_holds name end octets first now h)

pub sync_keeps : (name : FileName) (end : ℕ) (octets : List ℕ) (first now new : Option History) → AreAddedOn name end octets first now → new ≡ after (change name synced) now → KeepsFront name end first new
sync_keeps name end octets first now new h goes = (along_synced name end octets first now new h goes).each

pub sync_others : (name : FileName) (end : ℕ) (octets : List ℕ) (first now new : Option History) → AreAddedOn name end octets first now → new ≡ after (change name synced) now → SameButFor name first new
sync_others name end octets first now new h goes = (along_synced name end octets first now new h goes).same

pub sync_added : (name : FileName) (end : ℕ) (octets : List ℕ) (first now new : Option History) → AreAddedOn name end octets first now → AreOctets octets → new ≡ after (change name synced) now
    → Between (λ a b. IsAddedTo octets (a name) (b name)) first new
sync_added name end octets first now new h fit goes =
    between-after (λ a b. IsAddedOn end octets (a name) (b name)) (λ a b. IsAddedTo octets (a name) (b name)) (λ disk. Unit {0}) (change name synced) first now new
    (λ a b r t. let F : FileState → Type 0 = λ f. IsAddedTo octets (a name) f in subst F (sym (change-here name synced b)) (synced_added end octets (a name) (b name) r fit))
    h.added (if_told-all _ now (λ disk. tt)) goes

-- ---- octets in pieces

pub next_at : (end at behind : ℕ) (before octets : List ℕ) → at ≡ end + length before → behind ≡ at + length octets → behind ≡ end + length (before ++ octets)
next_at end at behind before octets is then = let l = length-append before octets in omega (arith, is, then, l)

-- Of these octets some were added, to where the file ends now, and the rest weren't yet.
pub record AreAddedSoFar (name : FileName) (at : ℕ) (octets : List ℕ) (old : Option History) (end : ℕ) (rest : List ℕ) (now : Option History) : Type 0 where
  pub done : List ℕ
  pub cut : octets ≡ done ++ rest
  pub ends : end ≡ at + length done
  pub added : (from : ℕ) (before : List ℕ) (first : Option History) → AreAddedOn name from before first old → at ≡ from + length before → AreAddedOn name from (before ++ done) first now

pub none_added : (name : FileName) (at : ℕ) (octets : List ℕ) (old : Option History) → AreAddedSoFar name at octets old at octets old
none_added name at octets old = record {
  done = [];
  cut = refl;
  ends = omega arith;
  added = λ from before first h is. subst (λ (xs : List ℕ). AreAddedOn name from xs first old) (sym (append-nil before)) h;
}

pub piece_added : (name : FileName) (at : ℕ) (octets : List ℕ) (old : Option History) (end behind : ℕ) (rest piece left : List ℕ) (now new : Option History) → AreAddedSoFar name at octets old end rest now → rest ≡ piece ++ left → behind ≡ end + length piece
    → ((from : ℕ) (before : List ℕ) (first : Option History) → AreAddedOn name from before first now → end ≡ from + length before → AreAddedOn name from (before ++ piece) first new) → AreAddedSoFar name at octets old behind left new
piece_added name at octets old end behind rest piece left now new h cut ends goes = record {
  done = h.done ++ piece;
  cut = h.cut ∙ (ap (λ (xs : List ℕ). h.done ++ xs) cut ∙ sym (append_assoc h.done piece left));
  ends = next_at at end behind h.done piece h.ends ends;
  added = λ from before first begun is. subst (λ (xs : List ℕ). AreAddedOn name from xs first new) (append_assoc before h.done piece) (goes from (before ++ h.done) first (h.added from before first begun is) (next_at from at end before h.done is h.ends));
}

pub all_added : (name : FileName) (at : ℕ) (octets : List ℕ) (old : Option History) (end : ℕ) (rest : List ℕ) (now : Option History) → AreAddedSoFar name at octets old end rest now → length rest ≡ 0 → (end ≡ at + length octets)
    × ((from : ℕ) (before : List ℕ) (first : Option History) → AreAddedOn name from before first old → at ≡ from + length before → AreAddedOn name from (before ++ octets) first now)
all_added name at octets old end rest now h none =
    let empty : rest ≡ [] = nil_from_length rest none in
    let all : octets ≡ h.done = h.cut ∙ (ap (λ (xs : List ℕ). h.done ++ xs) empty ∙ append-nil h.done) in (
      h.ends ∙ ap (λ (xs : List ℕ). at + length xs) (sym all),
      λ from before first begun is. subst (λ (xs : List ℕ). AreAddedOn name from (before ++ xs) first now) (sym all) (h.added from before first begun is),
    )

pub octets_fit : (front body back : List ℕ) → AreOctets front → AreOctets body → AreOctets back → AreOctets ((front ++ body) ++ back)
octets_fit front body back a b c = All-append (λ octet. octet < 256) (front ++ body) back (All-append (λ octet. octet < 256) front body a b) c
