-- The entries of a map log that is written anew, group by group.
use Rattle.std.proofs.Common.{◌≡◌, ◌<◌, ◌≤◌, ◌+◌, ◌-◌, min, ◌++◌, ◌∷◌, [], ℕ, List, Some, arith, sym, ◌∙◌, ap, subst, drop, take, get_or, slice_get, length, length-append, length-drop, append-nil, append_assoc}
use Rattle.std.specs.List.{AllByRecursion}
use Rattle.std.proofs.lemmas.List.{get_or-drop, length-take, length-take-le, take-append-drop, take_at, take_more}
use Rattle.std.proofs.lemmas.Option.{get_or_from_slice_get, slice_get_within}
use Rattle.mdbox_base.specs.declared.entries.MapEntry.{MapEntry}
use Rattle.model_logs.specs.Entries.{MapInRange}
use Rattle.model_meaning.proofs.MapLemmas.{map_more}
use Rattle.model_meaning.specs.MapFits.{AllMapFit}
use Rattle.model_meaning.specs.MapMeaning.{MapMeaning, map_meaning}
use Rattle.model_rewritten.specs.Rewriting.{IsRewrittenMap}
use Rattle.model_store.specs.Opening.{AreMapEntries}
use Rattle.store_core.specs.MapDrafts.{AllMapFitBehind}

-- one entry more of those behind a place
pub taken_next : {X : Type 0} → (xs : List X) (from taken : ℕ) (x : X) → slice_get xs (from + taken) ≡ Some x → take taken (drop from xs) ++ x ∷ [] ≡ take (taken + 1) (drop from xs)
taken_next xs from taken x is =
    let within : from + taken < length xs = slice_get_within xs (from + taken) x is in
    let here : get_or (drop from xs) taken x ≡ x = get_or-drop from xs taken x ∙ get_or_from_slice_get xs (from + taken) x x is in
    let more : take (taken + 1) (drop from xs) ≡ take taken (drop from xs) ++ get_or (drop from xs) taken x ∷ [] = take_more (drop from xs) taken x (omega (arith, within, length-drop from xs)) in
    ap (λ y. take taken (drop from xs) ++ y ∷ []) (sym here) ∙ sym more

-- of entries that fit one behind another, the first do, and the rest behind them
fit_parts : (store : List ℕ) (before xs ys : List MapEntry) → AllMapFit store before (xs ++ ys) → AllMapFit store before xs × AllMapFit store (before ++ xs) ys
fit_parts store before [] ys fit = (tt, subst (λ (es : List MapEntry). AllMapFit store es ys) (sym (append-nil before)) fit)
fit_parts store before (x ∷ xs) ys fit =
    let rest = fit_parts store (before ++ x ∷ []) xs ys fit.1 in
    ((fit.0, rest.0), subst (λ (es : List MapEntry). AllMapFit store es ys) (append_assoc before (x ∷ []) xs) rest.1)

-- each fits behind what those before it mean
fit_behind : (store : List ℕ) (before xs : List MapEntry) → AllMapFit store before xs → AllMapFitBehind (map_meaning store before) xs
fit_behind store before [] fit = tt
fit_behind store before (x ∷ xs) fit = (fit.0, subst (λ (m : MapMeaning). AllMapFitBehind m xs) (map_more store before x) (fit_behind store (before ++ x ∷ []) xs fit.1))

pub each_part : {X : Type 0} (P : X → Type 0) (xs ys : List X) → AllByRecursion P (xs ++ ys) → AllByRecursion P xs × AllByRecursion P ys
each_part P [] ys each = (tt, each)
each_part P (x ∷ xs) ys each = let rest = each_part P xs ys each.1 in ((each.0, rest.0), rest.1)

-- The next entries of those that a log gets, behind those that it has.
pub record IsNextGroup (store : List ℕ) (all : List MapEntry) (from : ℕ) (group : List MapEntry) : Type 0 where
  pub good : AreMapEntries store (take from all)
  pub in_range : AllByRecursion MapInRange group
  pub fit : AllMapFitBehind (map_meaning store (take from all)) group
  pub some : 1 ≤ length group
  pub few : length group ≤ 16
  pub taken : take from all ++ group ≡ take (from + length group) all
  pub within : from + length group ≤ length all

pub group_next : (m : MapMeaning) (all : List MapEntry) (from : ℕ) → IsRewrittenMap m all → from < length all → IsNextGroup m.store all from (take 16 (drop from all))
group_next m all from r within =
    let group : List MapEntry = take 16 (drop from all) in
    let rest : List MapEntry = drop 16 (drop from all) in
    let behind : group ++ rest ≡ drop from all = take-append-drop 16 (drop from all) in
    let whole : take from all ++ (group ++ rest) ≡ all = ap (λ (es : List MapEntry). take from all ++ es) behind ∙ take-append-drop from all in
    let fits = fit_parts m.store [] (take from all) (group ++ rest) (subst (λ (es : List MapEntry). AllMapFit m.store [] es) (sym whole) r.fit) in
    let ranges = each_part MapInRange (take from all) (group ++ rest) (subst (AllByRecursion MapInRange) (sym whole) r.in_range) in
    let before : length (take from all) ≡ from = length-take-le from all (omega (arith, within)) in
    let size : length group ≡ min 16 (length (drop from all)) = length-take 16 (drop from all) in
    let left : length (drop from all) ≡ length all - from = length-drop from all in
    let both : length (take from all ++ group) ≡ from + length group = length-append (take from all) group ∙ ap (λ (n : ℕ). n + length group) before in
    let front : take (from + length group) ((take from all ++ group) ++ rest) ≡ take from all ++ group = take_at (take from all ++ group) rest (from + length group) both in
    let joined : (take from all ++ group) ++ rest ≡ all = append_assoc (take from all) group rest ∙ whole in
    record {
      good = (ranges.0, fits.0);
      in_range = (each_part MapInRange group rest ranges.1).0;
      fit = fit_behind m.store (take from all) group (fit_parts m.store (take from all) group rest fits.1).0;
      some = omega (arith, size, left, within);
      few = omega (arith, size);
      taken = sym front ∙ ap (take (from + length group)) joined;
      within = omega (arith, size, left, within);
    }
