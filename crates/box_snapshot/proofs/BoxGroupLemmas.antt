-- The entries of a mailbox log that is written anew, group by group.
use Rattle.std.proofs.Common.{◌≡◌, ◌<◌, ◌≤◌, ◌+◌, ◌-◌, min, ◌++◌, ◌∷◌, [], ℕ, List, Option, Some, None, All, refl, arith, sym, ◌∙◌, ap, subst, drop, take, fold, map, if◌then◌else◌, Bool, true, false, ◌==◌, length, length-append, length-drop, append-nil, append_assoc}
use Rattle.std.specs.List.{AllByRecursion}
use Rattle.std.specs.Option.{option_map_or}
use Rattle.std.proofs.lemmas.List.{length-take, length-take-le, take-append-drop, take_at}
use Rattle.std.proofs.lemmas.List.Elements.{All-append, All-cons, All-drop, All-map, All-nil, All-take, All-weaker}
use Rattle.mdbox_base.specs.declared.entries.BoxEntry.{BoxEntry}
use Rattle.mdbox_base.specs.declared.entries.BoxEntry.TheVariants as box
use Rattle.model_logs.specs.Entries.{BoxInRange}
use Rattle.model_meaning.proofs.BoxLemmas.{box_more}
use Rattle.model_meaning.specs.BoxMeaning.{AllBoxFit, BoxMeaning, LogRow, box_applied, box_meaning, row_made}
use Rattle.model_meaning.specs.MapMeaning.{MapMeaning}
use Rattle.model_rewritten.specs.Rewriting.{box_snapshot, next_from, row_entry}
use Rattle.model_store.specs.Opening.{HasItsRecord}
use Rattle.store_core.specs.Drafts.{AllFitBehind}
use Rattle.box_snapshot.specs.BoxFilled.{CanBeRewritten}
use Rattle.box_snapshot.proofs.MapGroupLemmas.{each_part}

-- of entries that fit one behind another, the first do, and the rest behind them
box_fit_parts : (before xs ys : List BoxEntry) → AllBoxFit before (xs ++ ys) → AllBoxFit before xs × AllBoxFit (before ++ xs) ys
box_fit_parts before [] ys fit = (tt, subst (λ (es : List BoxEntry). AllBoxFit es ys) (sym (append-nil before)) fit)
box_fit_parts before (x ∷ xs) ys fit =
    let rest = box_fit_parts (before ++ x ∷ []) xs ys fit.1 in
    ((fit.0, rest.0), subst (λ (es : List BoxEntry). AllBoxFit es ys) (append_assoc before (x ∷ []) xs) rest.1)

-- each fits behind what those before it mean
box_fit_behind : (before xs : List BoxEntry) → AllBoxFit before xs → AllFitBehind (box_meaning before) xs
box_fit_behind before [] fit = tt
box_fit_behind before (x ∷ xs) fit = (fit.0, subst (λ (m : BoxMeaning). AllFitBehind m xs) (box_more before x) (box_fit_behind (before ++ x ∷ []) xs fit.1))

-- what entries mean with more
pub means_more : (before xs : List BoxEntry) → fold (λ m e. box_applied e m) (box_meaning before) xs ≡ box_meaning (before ++ xs)
means_more before [] = ap box_meaning (sym (append-nil before))
means_more before (x ∷ xs) = ap (λ (m : BoxMeaning). fold (λ n e. box_applied e n) m xs) (sym (box_more before x)) ∙ means_more (before ++ x ∷ []) xs ∙ ap box_meaning (append_assoc before (x ∷ []) xs)

-- each message that is added has its record
all_made : (mapped : MapMeaning) (m : BoxMeaning) → All (HasItsRecord mapped) m.rows → All (λ e. All (HasItsRecord mapped) (row_made e)) (box_snapshot m)
all_made mapped m records =
    All-append (λ (e : BoxEntry). All (HasItsRecord mapped) (row_made e)) (map row_entry m.rows) (if next_from 1 m.rows == m.next then [] else box.N m.next ∷ [])
    (All-map (λ (e : BoxEntry). All (HasItsRecord mapped) (row_made e)) row_entry m.rows
    (All-weaker (HasItsRecord mapped) (λ (row : LogRow). All (HasItsRecord mapped) (row_made (row_entry row))) (λ row own. All-cons (HasItsRecord mapped) row [] own (All-nil (HasItsRecord mapped))) m.rows records))
    (last (next_from 1 m.rows == m.next))
  where
    last : (t : Bool) → All (λ e. All (HasItsRecord mapped) (row_made e)) (if t then [] else box.N m.next ∷ [])
    last true = All-nil (λ (e : BoxEntry). All (HasItsRecord mapped) (row_made e))
    last false = All-cons (λ (e : BoxEntry). All (HasItsRecord mapped) (row_made e)) (box.N m.next) [] (All-nil (HasItsRecord mapped)) (All-nil (λ (e : BoxEntry). All (HasItsRecord mapped) (row_made e)))

-- The next entries of those that a log gets, behind those that it has.
pub record IsNextBoxGroup (mapped : MapMeaning) (all : List BoxEntry) (from : ℕ) (group : List BoxEntry) : Type 0 where
  pub in_range : AllByRecursion BoxInRange group
  pub fit : AllFitBehind (box_meaning (take from all)) group
  pub records : All (λ e. All (HasItsRecord mapped) (row_made e)) group
  pub some : 1 ≤ length group
  pub few : length group ≤ 16
  pub taken : take from all ++ group ≡ take (from + length group) all
  pub within : from + length group ≤ length all
  pub short : length all ≤ 1000001

box_group_next : (mapped : MapMeaning) (m : BoxMeaning) (from : ℕ) → CanBeRewritten mapped m → from < length (box_snapshot m) → IsNextBoxGroup mapped (box_snapshot m) from (take 16 (drop from (box_snapshot m)))
box_group_next mapped m from can within =
    let all : List BoxEntry = box_snapshot m in
    let r = can.rewritten in
    let group : List BoxEntry = take 16 (drop from all) in
    let rest : List BoxEntry = drop 16 (drop from all) in
    let behind : group ++ rest ≡ drop from all = take-append-drop 16 (drop from all) in
    let whole : take from all ++ (group ++ rest) ≡ all = ap (λ (es : List BoxEntry). take from all ++ es) behind ∙ take-append-drop from all in
    let fits = box_fit_parts [] (take from all) (group ++ rest) (subst (λ (es : List BoxEntry). AllBoxFit [] es) (sym whole) r.fit) in
    let ranges = each_part BoxInRange (take from all) (group ++ rest) (subst (AllByRecursion BoxInRange) (sym whole) r.in_range) in
    let before : length (take from all) ≡ from = length-take-le from all (omega (arith, within)) in
    let size : length group ≡ min 16 (length (drop from all)) = length-take 16 (drop from all) in
    let left : length (drop from all) ≡ length all - from = length-drop from all in
    let both : length (take from all ++ group) ≡ from + length group = length-append (take from all) group ∙ ap (λ (n : ℕ). n + length group) before in
    let front : take (from + length group) ((take from all ++ group) ++ rest) ≡ take from all ++ group = take_at (take from all ++ group) rest (from + length group) both in
    let joined : (take from all ++ group) ++ rest ≡ all = append_assoc (take from all) group rest ∙ whole in
    record {
      in_range = (each_part BoxInRange group rest ranges.1).0;
      fit = box_fit_behind (take from all) group (box_fit_parts (take from all) group rest fits.1).0;
      records = All-take (λ (e : BoxEntry). All (HasItsRecord mapped) (row_made e)) 16 (drop from all) (All-drop (λ (e : BoxEntry). All (HasItsRecord mapped) (row_made e)) from all (all_made mapped m can.records));
      some = omega (arith, size, left, within);
      few = omega (arith, size);
      taken = sym front ∙ ap (take (from + length group)) joined;
      within = omega (arith, size, left, within);
      short = can.few;
    }

-- of the mailbox that the store has with a number
pub group_next_of : (mapped : MapMeaning) (list : Option BoxMeaning) (from : ℕ) (group : List BoxEntry) → ((m : BoxMeaning) → list ≡ Some m → CanBeRewritten mapped m) → from < length (option_map_or box_snapshot list [])
    → group ≡ take 16 (drop from (option_map_or box_snapshot list [])) → IsNextBoxGroup mapped (option_map_or box_snapshot list []) from group
group_next_of mapped None from group can within is = absurd (let h : from < 0 = within in omega (arith, h))
group_next_of mapped (Some m) from group can within is = subst (IsNextBoxGroup mapped (box_snapshot m) from) (sym is) (box_group_next mapped m from (can m refl) within)
