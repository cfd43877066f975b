-- Pins of a run, as a fetch pins a file and unpins it.
use Rattle.mail_fetch.proofs.Common.{◌≡◌, ◌+◌, ◌==◌, ◌||◌, ℕ, Bool, true, false, cond, List, [], ◌∷◌, ◌++◌, refl, sym, ◌∙◌, ap, arith, All, sum_by, filter, if◌then◌else◌, list_any, eq-eqb, eqb-true, All-head, All-tail, sum_by-cons, InstRow, RunEvent, Run, Pin, and_then, own_events, is_unpinning}
use Rattle.mail_fetch.proofs.Common.{has_unpinned, own_more, own_other, pins_of, one_pin}
use Rattle.std.specs.Prelude.{count_by}
use Rattle.std.proofs.lemmas.List.Folds.{list_any-append}
use Rattle.std.proofs.lemmas.List.Sums.{sum_by-append}

sum_more : {X : Type 0} → (f : X → ℕ) (xs : List X) (x : X) → sum_by f (xs ++ x ∷ []) ≡ sum_by f xs + f x
sum_more f xs x = let h = sum_by-append f xs (x ∷ []) in let k = sum_by-cons f x [] in omega (arith, h, k)

sum_equal : {X : Type 0} → (f g : X → ℕ) (xs : List X) → ((x : X) → f x ≡ g x) → sum_by f xs ≡ sum_by g xs
sum_equal f g [] h = refl
sum_equal f g (x ∷ xs) h = let a = sum_by-cons f x xs in let b = sum_by-cons g x xs in let c = h x in let d = sum_equal f g xs h in omega (arith, a, b, c, d)

any_more : {X : Type 0} → (p : X → Bool) (xs : List X) (x : X) → list_any p (xs ++ x ∷ []) ≡ (list_any p xs || p x)
any_more p xs x = list_any-append p xs (x ∷ []) ∙ ap (λ (b : Bool). list_any p xs || b) (or_none (p x))
  where
    or_none : (b : Bool) → (b || false) ≡ b
    or_none true = refl
    or_none false = refl

-- the pins that an event has still
abbrev pins_left : Run → ℕ → RunEvent → ℕ
pins_left run file e = if has_unpinned e.request run then 0 else count_by (λ p. p.file == file) e.pins

-- ---- requests that have unpinned

-- an event that doesn't unpin
unpinned_same : (request : ℕ) (run : Run) (event : RunEvent) → is_unpinning event ≡ false → has_unpinned request (and_then run event) ≡ has_unpinned request run
unpinned_same request run event none = by_test (event.request == request) refl
  where
    or_none : (b : Bool) → (b || false) ≡ b
    or_none true = refl
    or_none false = refl

    by_test : (b : Bool) → (event.request == request) ≡ b → has_unpinned request (and_then run event) ≡ has_unpinned request run
    by_test true e = ap (λ (es : List RunEvent). list_any is_unpinning es) (own_more request run event e) ∙ (any_more is_unpinning (own_events request run) event ∙ (ap (λ (b : Bool). has_unpinned request run || b) none ∙ or_none (has_unpinned request run)))
    by_test false e = ap (λ (es : List RunEvent). list_any is_unpinning es) (own_other request run event e)

-- ---- the first event of a fetch pins

pub pins_begin : (run : Run) (event : RunEvent) (file pieces other : ℕ) (instances : List InstRow) → is_unpinning event ≡ false → has_unpinned event.request run ≡ false → event.pins ≡ record { file = file; pieces = pieces; instances = instances } ∷ [] → pins_of (and_then run event) other ≡ pins_of run other + one_pin file other
pins_begin run event file pieces other instances none own pinned =
    let more = sum_more (pins_left (and_then run event) other) run.events event in
    let same = sum_equal (pins_left (and_then run event) other) (pins_left run other) run.events (λ e. ap (λ (b : Bool). cond b 0 (count_by (λ (p : Pin). p.file == other) e.pins)) (unpinned_same e.request run event none)) in
    let here : pins_left (and_then run event) other event ≡ count_by (λ (p : Pin). p.file == other) event.pins = ap (λ (b : Bool). cond b 0 (count_by (λ (p : Pin). p.file == other) event.pins)) (unpinned_same event.request run event none ∙ own) in
    let one : count_by (λ (p : Pin). p.file == other) event.pins ≡ one_pin file other = ap (λ (ps : List Pin). count_by (λ (p : Pin). p.file == other) ps) pinned ∙ counted (file == other) in
    omega (arith, more, same, here, one)
  where
    counted : (b : Bool) → sum_by (λ (p : Pin). if p.file == other then 1 else 0) (record { file = file; pieces = pieces; instances = instances } ∷ []) ≡ (if file == other then 1 else 0)
    counted b = let k = sum_by-cons (λ (p : Pin). if p.file == other then 1 else 0) (record { file = file; pieces = pieces; instances = instances }) [] in omega (arith, k)

-- ---- the last one unpins

-- A sum over events is that over the events of a request, and that over the others.
split : (f g h : RunEvent → ℕ) (place : ℕ) (events : List RunEvent) → ((e : RunEvent) → (e.request == place) ≡ true → (f e ≡ h e) × (g e ≡ 0)) → ((e : RunEvent) → (e.request == place) ≡ false → g e ≡ f e)
    → sum_by f events ≡ sum_by g events + sum_by h (filter (λ e. e.request == place) events)
split f g h place [] own others = refl
split f g h place (e ∷ es) own others = by_test (e.request == place) refl (split f g h place es own others)
  where
    by_test : (b : Bool) → (e.request == place) ≡ b → sum_by f es ≡ sum_by g es + sum_by h (filter (λ (x : RunEvent). x.request == place) es) → sum_by f (e ∷ es) ≡ sum_by g (e ∷ es) + sum_by h (filter (λ (x : RunEvent). x.request == place) (e ∷ es))
    by_test true t rest =
        let kept : filter (λ (x : RunEvent). x.request == place) (e ∷ es) ≡ e ∷ filter (λ (x : RunEvent). x.request == place) es = ap (λ (b : Bool). cond b (e ∷ filter (λ (x : RunEvent). x.request == place) es) (filter (λ (x : RunEvent). x.request == place) es)) t in
        let sums = ap (sum_by h) kept in
        let a = sum_by-cons f e es in
        let b = sum_by-cons g e es in
        let c = sum_by-cons h e (filter (λ (x : RunEvent). x.request == place) es) in
        let o = own e t in
        let o0 = o.0 in
        let o1 = o.1 in
        omega (arith, rest, sums, a, b, c, o0, o1)
    by_test false t rest =
        let kept : filter (λ (x : RunEvent). x.request == place) (e ∷ es) ≡ filter (λ (x : RunEvent). x.request == place) es = ap (λ (b : Bool). cond b (e ∷ filter (λ (x : RunEvent). x.request == place) es) (filter (λ (x : RunEvent). x.request == place) es)) t in
        let sums = ap (sum_by h) kept in
        let a = sum_by-cons f e es in
        let b = sum_by-cons g e es in
        let o = others e t in
        omega (arith, rest, sums, a, b, o)

abbrev pub pins_at_all : ℕ → RunEvent → ℕ
pins_at_all file e = count_by (λ p. p.file == file) e.pins

-- pins of one file, and events behind it that pin none
pub own_pins : (file pieces other : ℕ) (instances : List InstRow) (pin : RunEvent) (behind : List RunEvent) → pin.pins ≡ record { file = file; pieces = pieces; instances = instances } ∷ [] → All (λ e. e.pins ≡ []) behind → sum_by (pins_at_all other) (pin ∷ behind) ≡ one_pin file other
own_pins file pieces other instances pin behind pinned none =
    let a = sum_by-cons (pins_at_all other) pin behind in
    let one : pins_at_all other pin ≡ one_pin file other = ap (λ (ps : List Pin). count_by (λ (p : Pin). p.file == other) ps) pinned ∙ counted in
    let rest = no_pins behind none in
    omega (arith, a, one, rest)
  where
    counted : sum_by (λ (p : Pin). if p.file == other then 1 else 0) (record { file = file; pieces = pieces; instances = instances } ∷ []) ≡ (if file == other then 1 else 0)
    counted = let k = sum_by-cons (λ (p : Pin). if p.file == other then 1 else 0) (record { file = file; pieces = pieces; instances = instances }) [] in omega (arith, k)

    no_pins : (es : List RunEvent) → All (λ e. e.pins ≡ []) es → sum_by (pins_at_all other) es ≡ 0
    no_pins [] h = refl
    no_pins (e ∷ es) h =
        let a = sum_by-cons (pins_at_all other) e es in
        let here : pins_at_all other e ≡ 0 = ap (λ (ps : List Pin). count_by (λ (p : Pin). p.file == other) ps) (All-head (λ (x : RunEvent). x.pins ≡ []) e es h) in
        let rest = no_pins es (All-tail (λ (x : RunEvent). x.pins ≡ []) e es h) in
        omega (arith, a, here, rest)

pub pins_end : (run : Run) (event : RunEvent) (other n : ℕ) → is_unpinning event ≡ true → has_unpinned event.request run ≡ false → sum_by (pins_at_all other) (own_events event.request run) ≡ n → pins_of (and_then run event) other + n ≡ pins_of run other
pins_end run event other n unpins own sum =
    let more = sum_more (pins_left (and_then run event) other) run.events event in
    let here : pins_left (and_then run event) other event ≡ 0 = ap (λ (b : Bool). cond b 0 (count_by (λ (p : Pin). p.file == other) event.pins)) now in
    let parts = split (pins_left run other) (pins_left (and_then run event) other) (pins_at_all other) event.request run.events own_left others_left in
    omega (arith, more, here, parts, sum)
  where
    or_true : (b : Bool) → (b || true) ≡ true
    or_true true = refl
    or_true false = refl

    now : has_unpinned event.request (and_then run event) ≡ true
    now = ap (λ (es : List RunEvent). list_any is_unpinning es) (own_more event.request run event (eq-eqb event.request event.request refl))
        ∙ (any_more is_unpinning (own_events event.request run) event ∙ (ap (λ (b : Bool). has_unpinned event.request run || b) unpins ∙ or_true (has_unpinned event.request run)))

    own_left : (e : RunEvent) → (e.request == event.request) ≡ true → (pins_left run other e ≡ pins_at_all other e) × (pins_left (and_then run event) other e ≡ 0)
    own_left e t = let same = eqb-true e.request event.request t in (
      ap (λ (b : Bool). cond b 0 (pins_at_all other e)) (ap (λ (r : ℕ). has_unpinned r run) same ∙ own),
      ap (λ (b : Bool). cond b 0 (pins_at_all other e)) (ap (λ (r : ℕ). has_unpinned r (and_then run event)) same ∙ now),
    )

    others_left : (e : RunEvent) → (e.request == event.request) ≡ false → pins_left (and_then run event) other e ≡ pins_left run other e
    others_left e t = ap (λ (b : Bool). cond b 0 (pins_at_all other e)) (ap (λ (es : List RunEvent). list_any is_unpinning es) (own_other e.request run event (flip (event.request == e.request) refl)))
      where
        flip : (b : Bool) → (event.request == e.request) ≡ b → (event.request == e.request) ≡ false
        flip true f = absurd (let k : true ≡ false = sym (eq-eqb e.request event.request (sym (eqb-true event.request e.request f))) ∙ t in cc k)
        flip false f = f
