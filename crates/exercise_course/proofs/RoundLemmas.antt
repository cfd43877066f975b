-- What a lane's mailbox lists, by how many of the lane's requests are done.
use Rattle.exercise_course.proofs.Common.{◌≡◌, ◌≢◌, ◌≤◌, ◌<◌, ◌+◌, ◌*◌, ◌/◌, ◌%◌, ◌⊎◌, ℕ, zero, suc, List, [], ◌∷◌, ◌++◌, length, Some, None, refl, sym, ◌∙◌, ap, arith, subst, inl, inr, length-append, Request, ListedMessage, Mailbox, Lists, empty_mailbox, change_first, add_last, add_message}
use Rattle.exercise_course.proofs.Common.{expunge, has_name, is_message_of_uid, mailbox_named, message_at, message_in, set_flags, without_first, lane_name, made_round, made_turn}
use Rattle.std.specs.Option.{option_and_then}
use Rattle.mdbox_base.specs.declared.requests.Request.TheVariants as request
use Rattle.script_text.proofs.MadeLemmas.{message_length}
use Rattle.exercise_course.proofs.BoxLemmas.{kept_added, length_changed, length_without, named_beside, named_changed, named_made, named_other, new_added, none_added, none_changed, none_without, other_without, weight_added, weight_expunged, weight_flagged, weight_made, weight_of}
use Rattle.exercise_course.proofs.ReadyLemmas.{HasRoom, IsDone, IsListed, IsReady}

-- ---- the mailbox in a round of four

-- how many UIDs the turns of a round have given
abbrev pub uids_given : ℕ → ℕ
uids_given zero = 0
uids_given (suc zero) = 1
uids_given (suc (suc t)) = 2

-- a message of this UID is there, and has so many octets
pub record HasSized (uid size : ℕ) (box : Mailbox) : Type 0 where
  pub message : ListedMessage
  pub there : message_in uid box ≡ Some message
  pub sized : length message.octets ≡ size

-- What is needed of a round's messages, by its turns that are done: of the first once it is delivered until it is expunged, and of its
-- copy until that has its flags.
abbrev pub HasRound : ℕ → ℕ → ℕ → Mailbox → Type 0
HasRound c zero size box = Unit {0}
HasRound c (suc zero) size box = HasSized (2 * c + 1) size box
HasRound c (suc (suc zero)) size box = HasSized (2 * c + 1) size box × HasSized (2 * c + 2) size box
HasRound c (suc (suc (suc t))) size box = HasSized (2 * c + 2) size box

-- The mailbox after c rounds of four and t turns of the next.
pub record IsAtTurn (c t size : ℕ) (box : Mailbox) : Type 0 where
  pub next : box.next_uid ≡ 2 * c + 1 + uids_given t
  pub few : length box.messages ≤ 4 * c + t
  pub above : (uid : ℕ) → box.next_uid ≤ uid → message_in uid box ≡ None
  pub has : HasRound c t size box

at_making : (size number : ℕ) (name : List ℕ) → IsAtTurn 0 0 size (empty_mailbox number name)
at_making size number name = record { next = omega arith; few = omega arith; above = λ uid le. refl; has = tt }

added_few : (m : ListedMessage) (box : Mailbox) (most : ℕ) → length box.messages ≤ most → length (add_last m box).messages ≤ most + 1
added_few m box most few = let k = length-append box.messages (record m { uid = box.next_uid } ∷ []) in omega (arith, k, few)

added_above : (m : ListedMessage) (box : Mailbox) → ((uid : ℕ) → box.next_uid ≤ uid → message_in uid box ≡ None) → (uid : ℕ) → box.next_uid + 1 ≤ uid → message_in uid (add_last m box) ≡ None
added_above m box above uid le = none_added m box uid (omega (arith, le)) (above uid (omega (arith, le)))

at_delivery : (c size before : ℕ) (m : ListedMessage) (box : Mailbox) → length m.octets ≡ size → IsAtTurn c 0 before box → IsAtTurn c 1 size (add_last m box)
at_delivery c size before m box sized h =
    let next = h.next in
    let few = added_few m box (4 * c + 0) h.few in
    let is : box.next_uid ≡ 2 * c + 1 = omega (arith, next) in
    record {
      next = omega (arith, next);
      few = omega (arith, few);
      above = added_above m box h.above;
      has = record { message = record m { uid = box.next_uid }; there = new_added m box (2 * c + 1) is (h.above (2 * c + 1) (omega (arith, is))); sized = sized };
    }

at_copy : (c size : ℕ) (m : ListedMessage) (box : Mailbox) → length m.octets ≡ size → IsAtTurn c 1 size box → IsAtTurn c 2 size (add_last m box)
at_copy c size m box sized h =
    let next = h.next in
    let few = added_few m box (4 * c + 1) h.few in
    let is : box.next_uid ≡ 2 * c + 2 = omega (arith, next) in
    let first : HasSized (2 * c + 1) size (add_last m box) = record { message = h.has.message; there = kept_added m box (2 * c + 1) h.has.message h.has.there; sized = h.has.sized } in
    let second : HasSized (2 * c + 2) size (add_last m box) = record { message = record m { uid = box.next_uid }; there = new_added m box (2 * c + 2) is (h.above (2 * c + 2) (omega (arith, is))); sized = sized } in
    record {
      next = omega (arith, next);
      few = omega (arith, few);
      above = added_above m box h.above;
      has = (first, second);
    }

at_expunge : (c size : ℕ) (box : Mailbox) → IsAtTurn c 2 size box → IsAtTurn c 3 size (record box { messages = without_first (is_message_of_uid (2 * c + 1)) box.messages })
at_expunge c size box h =
    let next = h.next in
    let few = h.few in
    let fewer = length_without (is_message_of_uid (2 * c + 1)) box.messages in
    record {
      next = omega (arith, next);
      few = omega (arith, few, fewer);
      above = λ uid le. none_without (is_message_of_uid uid) (is_message_of_uid (2 * c + 1)) box.messages (h.above uid le);
      has = record { message = h.has.1.message; there = other_without (2 * c + 2) (2 * c + 1) box.messages (omega arith) ∙ h.has.1.there; sized = h.has.1.sized };
    }

at_flag : (c size after flags : ℕ) (box : Mailbox) → IsAtTurn c 3 size box → IsAtTurn (c + 1) 0 after (record box { messages = change_first (is_message_of_uid (2 * c + 2)) (λ message. record message { flags = flags }) box.messages })
at_flag c size after flags box h =
    let next = h.next in
    let few = h.few in
    let same = length_changed (is_message_of_uid (2 * c + 2)) (λ (message : ListedMessage). record message { flags = flags }) box.messages in
    record {
      next = omega (arith, next);
      few = omega (arith, few, same);
      above = λ uid le. none_changed (is_message_of_uid uid) (is_message_of_uid (2 * c + 2)) (λ (message : ListedMessage). record message { flags = flags }) (λ x. refl) box.messages (h.above uid le);
      has = tt;
    }

-- ---- the lists

-- how many rounds a lane has done: none, and its mailbox isn't there; or its making, c rounds of four and t turns of the next
pub record IsGoing (sizes : ℕ → ℕ) (name : List ℕ) (n c t : ℕ) (lists : Lists) : Type 0 where
  pub rounds : n ≡ 1 + (4 * c + t)
  pub turns : t < 4
  pub box : Mailbox
  pub here : mailbox_named name lists ≡ Some box
  pub at_turn : IsAtTurn c t (sizes c) box

abbrev pub IsLane : (ℕ → ℕ) → List ℕ → ℕ → Lists → Type 0
IsLane sizes name n lists = ((n ≡ 0) × (mailbox_named name lists ≡ None)) ⊎ ((c : ℕ) × (t : ℕ) × IsGoing sizes name n c t lists)

-- it is seen in the lane's mailbox alone
pub lane_kept : (sizes : ℕ → ℕ) (name : List ℕ) (n : ℕ) (old new : Lists) → mailbox_named name new ≡ mailbox_named name old → IsLane sizes name n old → IsLane sizes name n new
lane_kept sizes name n old new same (inl h) = inl (h.0, same ∙ h.1)
lane_kept sizes name n old new same (inr h) = inr (h.0, h.1, record { rounds = h.2.rounds; turns = h.2.turns; box = h.2.box; here = same ∙ h.2.here; at_turn = h.2.at_turn })

-- what a lane's request adds to a sum over messages, and takes, and how many mailboxes it makes
abbrev pub turn_adds : ℕ → ℕ → ℕ
turn_adds zero w = w
turn_adds (suc zero) w = w
turn_adds (suc (suc t)) w = 0

abbrev pub turn_takes : ℕ → ℕ → ℕ
turn_takes (suc (suc zero)) w = w
turn_takes t w = 0

abbrev pub round_adds : (ℕ → ℕ) → (ℕ → ℕ) → ℕ → ℕ
round_adds v sizes zero = 0
round_adds v sizes (suc s) = turn_adds (s % 4) (v (sizes (s / 4)))

abbrev pub round_takes : (ℕ → ℕ) → (ℕ → ℕ) → ℕ → ℕ
round_takes v sizes zero = 0
round_takes v sizes (suc s) = turn_takes (s % 4) (v (sizes (s / 4)))

abbrev pub round_makes : ℕ → ℕ
round_makes zero = 1
round_makes (suc s) = 0

-- A lane goes on by one round.
pub record GoesOn (sizes : ℕ → ℕ) (name : List ℕ) (n : ℕ) (old new : Lists) : Type 0 where
  pub own : IsLane sizes name (n + 1) new
  pub others : (other : List ℕ) → other ≢ name → mailbox_named other new ≡ mailbox_named other old
  pub weighs : (v : ℕ → ℕ) → weight_of v new + round_takes v sizes n ≡ weight_of v old + round_adds v sizes n
  pub many : length new ≡ length old + round_makes n

turn_is : (number i lane n c t : ℕ) → n ≡ 1 + (4 * c + t) → t < 4 → made_round number i lane n ≡ made_turn number i lane c t
turn_is number i lane n c t rounds turns =
    let e : n ≡ suc (4 * c + t) = omega (arith, rounds) in
    let quotient : (4 * c + t) / 4 ≡ c = omega (arith, turns) in
    let rest : (4 * c + t) % 4 ≡ t = omega (arith, turns) in
    ap (made_round number i lane) e ∙ ap (λ (k : ℕ). made_turn number i lane k ((4 * c + t) % 4)) quotient ∙ ap (made_turn number i lane c) rest

adds_is : (v sizes : ℕ → ℕ) (n c t : ℕ) → n ≡ 1 + (4 * c + t) → t < 4 → round_adds v sizes n ≡ turn_adds t (v (sizes c))
adds_is v sizes n c t rounds turns =
    let e : n ≡ suc (4 * c + t) = omega (arith, rounds) in
    let quotient : (4 * c + t) / 4 ≡ c = omega (arith, turns) in
    let rest : (4 * c + t) % 4 ≡ t = omega (arith, turns) in
    ap (round_adds v sizes) e ∙ ap (λ (k : ℕ). turn_adds ((4 * c + t) % 4) (v (sizes k))) quotient ∙ ap (λ (k : ℕ). turn_adds k (v (sizes c))) rest

takes_is : (v sizes : ℕ → ℕ) (n c t : ℕ) → n ≡ 1 + (4 * c + t) → t < 4 → round_takes v sizes n ≡ turn_takes t (v (sizes c))
takes_is v sizes n c t rounds turns =
    let e : n ≡ suc (4 * c + t) = omega (arith, rounds) in
    let quotient : (4 * c + t) / 4 ≡ c = omega (arith, turns) in
    let rest : (4 * c + t) % 4 ≡ t = omega (arith, turns) in
    ap (round_takes v sizes) e ∙ ap (λ (k : ℕ). turn_takes ((4 * c + t) % 4) (v (sizes k))) quotient ∙ ap (λ (k : ℕ). turn_takes k (v (sizes c))) rest

makes_none : (n c t : ℕ) → n ≡ 1 + (4 * c + t) → round_makes n ≡ 0
makes_none n c t rounds = let e : n ≡ suc (4 * c + t) = omega (arith, rounds) in ap round_makes e

-- the message of a mailbox that is there
message_is : (name : List ℕ) (uid : ℕ) (lists : Lists) (box : Mailbox) (m : ListedMessage) → mailbox_named name lists ≡ Some box → message_in uid box ≡ Some m → message_at name uid lists ≡ Some m
message_is name uid lists box m here there = ap (option_and_then (message_in uid)) here ∙ there

listed : (name : List ℕ) (uid size : ℕ) (lists : Lists) (box : Mailbox) → mailbox_named name lists ≡ Some box → HasSized uid size box → IsListed name uid lists
listed name uid size lists box here h = record { box = box; message = h.message; here = here; there = message_is name uid lists box h.message here h.there }

roomy : (name : List ℕ) (lists : Lists) (box : Mailbox) (most : ℕ) → mailbox_named name lists ≡ Some box → length box.messages ≤ most → most < 1000000 → HasRoom name lists
roomy name lists box most here few small = record { box = box; here = here; few = omega (arith, few, small) }

-- ---- a lane's next request finds what it asks for

turn_ready : (number i lane n c t : ℕ) (sizes : ℕ → ℕ) (old : Lists) → n < 1000000 → IsGoing sizes (lane_name lane) n c t old → IsReady (made_turn number i lane c t) old
turn_ready number i lane n c zero sizes old small g =
    let r = g.rounds in roomy (lane_name lane) old g.box (4 * c + 0) g.here g.at_turn.few (omega (arith, r, small))
turn_ready number i lane n c (suc zero) sizes old small g =
    let r = g.rounds in (listed (lane_name lane) (2 * c + 1) (sizes c) old g.box g.here g.at_turn.has, roomy (lane_name lane) old g.box (4 * c + 1) g.here g.at_turn.few (omega (arith, r, small)))
turn_ready number i lane n c (suc (suc zero)) sizes old small g = listed (lane_name lane) (2 * c + 1) (sizes c) old g.box g.here g.at_turn.has.0
turn_ready number i lane n c (suc (suc (suc t))) sizes old small g = listed (lane_name lane) (2 * c + 2) (sizes c) old g.box g.here g.at_turn.has

pub lane_ready : (number i lane n : ℕ) (sizes : ℕ → ℕ) (old : Lists) → n < 1000000 → (n ≡ 0 → length old < 1024) → IsLane sizes (lane_name lane) n old → IsReady (made_round number i lane n) old
lane_ready number i lane n sizes old small room (inl h) = subst (λ (k : ℕ). IsReady (made_round number i lane k) old) (sym h.0) (h.1, room h.0)
lane_ready number i lane n sizes old small room (inr h) =
    subst (λ (q : Request). IsReady q old) (sym (turn_is number i lane n h.0 h.1 h.2.rounds h.2.turns)) (turn_ready number i lane n h.0 h.1 sizes old small h.2)

-- ---- and is done

-- a message is added
goes_adding : (sizes : ℕ → ℕ) (name : List ℕ) (n c t : ℕ) (m : ListedMessage) (old : Lists) → (g : IsGoing sizes name n c t old) → length m.octets ≡ sizes c → t < 2
    → IsAtTurn c (t + 1) (sizes c) (add_last m g.box) → GoesOn sizes name n old (add_message name m old)
goes_adding sizes name n c t m old g sized first at = record {
  own = inr (
    c,
    t + 1,
    record {
      rounds = (let r = g.rounds in omega (arith, r));
      turns = omega (arith, first);
      box = add_last m g.box;
      here = named_changed name (add_last m) (λ x. refl) old g.box g.here;
      at_turn = at;
    },
  );
  others = λ other apart. named_other name other (add_last m) (λ x. refl) apart old;
  weighs = λ v.
      let w = weight_added v name m old g.box g.here in
      let s : v (length m.octets) ≡ v (sizes c) = ap v sized in
      let a = adds_is v sizes n c t g.rounds g.turns in
      let k = takes_is v sizes n c t g.rounds g.turns in
      let both = first_turns t (v (sizes c)) first in
      let p = both.0 in
      let q = both.1 in
      omega (arith, w, s, a, k, p, q);
  many = (let l = length_changed (has_name name) (add_last m) old in let z = makes_none n c t g.rounds in omega (arith, l, z));
}
  where
    first_turns : (t w : ℕ) → t < 2 → (turn_adds t w ≡ w) × (turn_takes t w ≡ 0)
    first_turns zero w lt = (refl, refl)
    first_turns (suc zero) w lt = (refl, refl)
    first_turns (suc (suc t)) w lt = absurd (omega (arith, lt))

goes_expunging : (sizes : ℕ → ℕ) (name : List ℕ) (n c : ℕ) (old : Lists) → IsGoing sizes name n c 2 old → GoesOn sizes name n old (expunge name (2 * c + 1) old)
goes_expunging sizes name n c old g =
    record {
      own = inr (
        c,
        3,
        record {
          rounds = (let r = g.rounds in omega (arith, r));
          turns = omega arith;
          box = record g.box { messages = without_first (is_message_of_uid (2 * c + 1)) g.box.messages };
          here = named_changed name (λ (mailbox : Mailbox). record mailbox { messages = without_first (is_message_of_uid (2 * c + 1)) mailbox.messages }) (λ x. refl) old g.box g.here;
          at_turn = at_expunge c (sizes c) g.box g.at_turn;
        },
      );
      others = λ other apart. named_other name other (λ (mailbox : Mailbox). record mailbox { messages = without_first (is_message_of_uid (2 * c + 1)) mailbox.messages }) (λ x. refl) apart old;
      weighs = λ v.
          let first = g.at_turn.has.0 in
          let w = weight_expunged v name (2 * c + 1) old g.box first.message g.here first.there in
          let s : v (length first.message.octets) ≡ v (sizes c) = ap v first.sized in
          let a = adds_is v sizes n c 2 g.rounds g.turns in
          let k = takes_is v sizes n c 2 g.rounds g.turns in
          omega (arith, w, s, a, k);
      many = (let l = length_changed (has_name name) (λ (mailbox : Mailbox). record mailbox { messages = without_first (is_message_of_uid (2 * c + 1)) mailbox.messages }) old in let z = makes_none n c 2 g.rounds in omega (arith, l, z));
    }

goes_flagging : (sizes : ℕ → ℕ) (name : List ℕ) (n c flags : ℕ) (old : Lists) → IsGoing sizes name n c 3 old → GoesOn sizes name n old (set_flags name (2 * c + 2) flags old)
goes_flagging sizes name n c flags old g =
    record {
      own = inr (
        c + 1,
        0,
        record {
          rounds = (let r = g.rounds in omega (arith, r));
          turns = omega arith;
          box = record g.box { messages = change_first (is_message_of_uid (2 * c + 2)) (λ message. record message { flags = flags }) g.box.messages };
          here = named_changed name (λ (mailbox : Mailbox). record mailbox { messages = change_first (is_message_of_uid (2 * c + 2)) (λ message. record message { flags = flags }) mailbox.messages }) (λ x. refl) old g.box g.here;
          at_turn = at_flag c (sizes c) (sizes (c + 1)) flags g.box g.at_turn;
        },
      );
      others = λ other apart. named_other name other (λ (mailbox : Mailbox). record mailbox { messages = change_first (is_message_of_uid (2 * c + 2)) (λ message. record message { flags = flags }) mailbox.messages }) (λ x. refl) apart old;
      weighs = λ v.
          let w = weight_flagged v name (2 * c + 2) flags old in
          let a = adds_is v sizes n c 3 g.rounds g.turns in
          let k = takes_is v sizes n c 3 g.rounds g.turns in
          omega (arith, w, a, k);
      many = (let l = length_changed (has_name name) (λ (mailbox : Mailbox). record mailbox { messages = change_first (is_message_of_uid (2 * c + 2)) (λ message. record message { flags = flags }) mailbox.messages }) old in let z = makes_none n c 3 g.rounds in omega (arith, l, z));
    }

-- the copied message is that of the round
copied_size : (name : List ℕ) (uid size : ℕ) (old : Lists) (box : Mailbox) (m : ListedMessage) → mailbox_named name old ≡ Some box → HasSized uid size box → message_at name uid old ≡ Some m → length m.octets ≡ size
copied_size name uid size old box m here h e =
    let k : Some h.message ≡ Some m = sym (message_is name uid old box h.message here h.there) ∙ e in
    let same : h.message ≡ m = cc k in
    ap (λ (x : ListedMessage). length x.octets) (sym same) ∙ h.sized

turn_done : (number i lane n c t : ℕ) (sizes : ℕ → ℕ) (old new : Lists) → (n ≡ 1 + 4 * c → (number % 1000 + i) % 1000 ≡ sizes c) → IsGoing sizes (lane_name lane) n c t old → IsDone (made_turn number i lane c t) old new → GoesOn sizes (lane_name lane) n old new
turn_done number i lane n c zero sizes old new sized g d =
    let r = g.rounds in
    let size : length d.0.octets ≡ sizes c = ap length d.1 ∙ message_length ((number % 1000 + i) % 1000) ∙ sized (omega (arith, r)) in
    subst (GoesOn sizes (lane_name lane) n old) (sym d.2) (goes_adding sizes (lane_name lane) n c 0 d.0 old g size (omega arith) (at_delivery c (sizes c) (sizes c) d.0 g.box size g.at_turn))
turn_done number i lane n c (suc zero) sizes old new sized g d =
    let size : length d.0.octets ≡ sizes c = copied_size (lane_name lane) (2 * c + 1) (sizes c) old g.box d.0 g.here g.at_turn.has d.1 in
    subst (GoesOn sizes (lane_name lane) n old) (sym d.2) (goes_adding sizes (lane_name lane) n c 1 d.0 old g size (omega arith) (at_copy c (sizes c) d.0 g.box size g.at_turn))
turn_done number i lane n c (suc (suc zero)) sizes old new sized g d = subst (GoesOn sizes (lane_name lane) n old) (sym d) (goes_expunging sizes (lane_name lane) n c old g)
turn_done number i lane n c (suc (suc (suc zero))) sizes old new sized g d = subst (GoesOn sizes (lane_name lane) n old) (sym d) (goes_flagging sizes (lane_name lane) n c 8 old g)
turn_done number i lane n c (suc (suc (suc (suc t)))) sizes old new sized g d = let l = g.turns in absurd (omega (arith, l))

made_done : (lane n : ℕ) (sizes : ℕ → ℕ) (old new : Lists) (number : ℕ) → n ≡ 0 → mailbox_named (lane_name lane) old ≡ None → new ≡ old ++ empty_mailbox number (lane_name lane) ∷ [] → GoesOn sizes (lane_name lane) n old new
made_done lane n sizes old new number none free is = subst (GoesOn sizes (lane_name lane) n old) (sym is) (record {
  own = inr (
    0,
    0,
    record {
      rounds = omega (arith, none);
      turns = omega arith;
      box = empty_mailbox number (lane_name lane);
      here = named_made old (lane_name lane) number free;
      at_turn = at_making (sizes 0) number (lane_name lane);
    },
  );
  others = λ other apart. named_beside old (lane_name lane) other number apart;
  weighs = λ v.
      let w = weight_made v (lane_name lane) number old in
      let a : round_adds v sizes n ≡ 0 = ap (round_adds v sizes) none in
      let k : round_takes v sizes n ≡ 0 = ap (round_takes v sizes) none in
      omega (arith, w, a, k);
  many = (let l = length-append old (empty_mailbox number (lane_name lane) ∷ []) in let z : round_makes n ≡ 1 = ap round_makes none in omega (arith, l, z));
})

-- A lane's next request goes on by a round.
pub lane_done : (number i lane n : ℕ) (sizes : ℕ → ℕ) (old new : Lists) → ((c : ℕ) → n ≡ 1 + 4 * c → (number % 1000 + i) % 1000 ≡ sizes c) → IsLane sizes (lane_name lane) n old → IsDone (made_round number i lane n) old new → GoesOn sizes (lane_name lane) n old new
lane_done number i lane n sizes old new sized (inl h) d =
    let m : IsDone (request.Make (lane_name lane)) old new = subst (λ (k : ℕ). IsDone (made_round number i lane k) old new) h.0 d in
    made_done lane n sizes old new m.0 h.0 h.1 m.1
lane_done number i lane n sizes old new sized (inr h) d =
    turn_done number i lane n h.0 h.1 sizes old new (sized h.0) h.2 (subst (λ (q : Request). IsDone q old new) (turn_is number i lane n h.0 h.1 h.2.rounds h.2.turns) d)
