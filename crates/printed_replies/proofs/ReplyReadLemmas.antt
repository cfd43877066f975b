-- Replies are read from their text in one way, alone and one after another.
use Rattle.std.specs.Prelude.{◌≡◌, ◌<◌, ◌+◌, ◌%◌, ◌/◌, ◌==◌, ℕ, zero, suc, All, Bool, true, false, List, [], ◌∷◌, ◌++◌, length, drop, take, map, flat_map, slice_index, IsTrue, Option, Some, None, refl, if◌then◌else◌}
use Rattle.std.specs.List.{list_all, AllByRecursion}
use Rattle.std.specs.Fmt.{digits, digits_onto, digit_glyph}
use Rattle.std.proofs.Common.{sym, ◌∙◌, ap, arith, append_assoc}
use Rattle.std.proofs.lemmas.Grind.{common_steps}
use Rattle.mdbox_base.specs.Numbers.{decimal_text}
use Rattle.mdbox_base.specs.Words.{is_other_than}
use Rattle.mdbox_base.specs.declared.ids.Guid.{Guid}
use Rattle.mdbox_base.specs.declared.ids.Uid.{Uid}
use Rattle.mdbox_base.specs.declared.replies.ListRow.{ListRow}
use Rattle.mdbox_base.specs.declared.replies.Refusal.{Refusal}
use Rattle.mdbox_base.specs.declared.replies.Reply.{Reply}
use Rattle.mdbox_base.specs.declared.replies.Reply.TheVariants as reply
use Rattle.mdbox_base.specs.declared.requests.Request.{Request}
use Rattle.mdbox_base.specs.declared.requests.Request.TheVariants as request
use Rattle.mdbox_base.specs.declared.script.JournalEntry.{JournalEntry}
use Rattle.model_octets.proofs.PiecesLemmas.{split_same}
use Rattle.model_storage.proofs.ReferenceLemmas.{both, first, second, others, is_digit, until_same}
use Rattle.request_text.specs.BatchText.{front_text, numbered_text, place_text, places_text, places_told, replies_from, request_steps}
use Rattle.request_text.specs.ReplyText.{gone_text, guid_text, numbers_text, ok_line, refusal_text, reply_text, row_text}
use Rattle.request_text.specs.declared.places.Places.{Places}
use Rattle.request_text.specs.declared.places.Places.TheVariants as places
use Rattle.printed_replies.specs.PrintedReplies.{AreRepliesTo, FitInWords, IsReplyTo, ReplyHasWords, RowHasWords}
use Rattle.printed_replies.proofs.TextReadLemmas.{each_of, guid_read, mark_read, number_read, numbers_read, refusal_read, rows_read, uid_same}

-- ---- a line

line_text : (t x : List ℕ) → ok_line t ++ x ≡ 79 ∷ 75 ∷ (t ++ 10 ∷ x)
line_text t x = ap (λ (l : List ℕ). 79 ∷ 75 ∷ l) (append_assoc t (10 ∷ []) x)

line_same : (s t x y : List ℕ) → ok_line s ++ x ≡ ok_line t ++ y → s ++ 10 ∷ x ≡ t ++ 10 ∷ y
line_same s t x y e = ap (drop 2) (sym (line_text s x) ∙ e ∙ line_text t y)

-- one line of numbers
numbers_line : (ns ms x y : List ℕ) → length ns ≡ length ms → FitInWords ns → FitInWords ms → ok_line (numbers_text ns) ++ x ≡ ok_line (numbers_text ms) ++ y → (ns ≡ ms) × (x ≡ y)
numbers_line ns ms x y l p q e = numbers_read 10 ns ms x y refl l p q (line_same (numbers_text ns) (numbers_text ms) x y e)

-- texts that begin otherwise
apart : (t u : List ℕ) → slice_index t 0 ≡ 79 → slice_index u 0 ≡ 78 → t ≡ u → ⊥
apart t u h k e = let z = ap (λ (l : List ℕ). slice_index l 0) e in omega (arith, h, k, z)

-- a number, and what stands between it and the line's end
with_text : (uid : ℕ) (t x : List ℕ) → (numbers_text (uid ∷ []) ++ t) ++ 10 ∷ x ≡ numbers_text (uid ∷ []) ++ (t ++ 10 ∷ x)
with_text uid t x = append_assoc (numbers_text (uid ∷ [])) t (10 ∷ x)

-- ---- each kind

refused_read : (r s : Refusal) (x y : List ℕ) → ReplyHasWords (reply.Refused r) → ReplyHasWords (reply.Refused s) → reply_text (reply.Refused r) ++ x ≡ reply_text (reply.Refused s) ++ y → (reply.Refused r ≡ reply.Refused s) × (x ≡ y)
refused_read r s x y p q e =
    let f = sym (append_assoc (refusal_text r) (10 ∷ []) x) ∙ ap (drop 3) e ∙ append_assoc (refusal_text s) (10 ∷ []) y in
    let k = refusal_read r s x y p q f in
    (ap (λ (o : Refusal). reply.Refused o) k.0, k.1)

saved_read : (a b : Uid) (g h : Guid) (x y : List ℕ) → ReplyHasWords (reply.Saved a g) → ReplyHasWords (reply.Saved b h) → reply_text (reply.Saved a g) ++ x ≡ reply_text (reply.Saved b h) ++ y → (reply.Saved a g ≡ reply.Saved b h) × (x ≡ y)
saved_read a b g h x y p q e =
    let f = sym (with_text a.0 (guid_text g) x) ∙ line_same (numbers_text (a.0 ∷ []) ++ guid_text g) (numbers_text (b.0 ∷ []) ++ guid_text h) x y e ∙ with_text b.0 (guid_text h) y in
    let r = number_read a.0 b.0 _ _ p.0.0 q.0.0 f in
    let s = guid_read g h x y p.1 q.1 (ap (λ (t : List ℕ). 32 ∷ t) r.1) in
    (ap (λ (u : Uid). reply.Saved u g) (uid_same a b r.0) ∙ ap (λ (k : Guid). reply.Saved b k) s.0, s.1)

listed_read : (a b : List ListRow) (x y : List ℕ) → ReplyHasWords (reply.Listed a) → ReplyHasWords (reply.Listed b) → reply_text (reply.Listed a) ++ x ≡ reply_text (reply.Listed b) ++ y → (reply.Listed a ≡ reply.Listed b) × (x ≡ y)
listed_read a b x y p q e =
    let f = sym (append_assoc (ok_line (numbers_text (length a ∷ []))) (flat_map row_text a) x) ∙ e ∙ append_assoc (ok_line (numbers_text (length b ∷ []))) (flat_map row_text b) y in
    let r = numbers_line (length a ∷ []) (length b ∷ []) _ _ refl p.0 q.0 f in
    let s = rows_read a b x y (ap (λ (l : List ℕ). slice_index l 0) r.0) (each_of RowHasWords a p.1) (each_of RowHasWords b q.1) r.1 in
    (ap (λ (l : List ListRow). reply.Listed l) s.0, s.1)

fetched_read : (a b : List ℕ) (x y : List ℕ) → ReplyHasWords (reply.Fetched a) → ReplyHasWords (reply.Fetched b) → reply_text (reply.Fetched a) ++ x ≡ reply_text (reply.Fetched b) ++ y → (reply.Fetched a ≡ reply.Fetched b) × (x ≡ y)
fetched_read a b x y p q e =
    let f = sym (append_assoc (ok_line (numbers_text (length a ∷ []))) (a ++ 10 ∷ []) x) ∙ e ∙ append_assoc (ok_line (numbers_text (length b ∷ []))) (b ++ 10 ∷ []) y in
    let r = numbers_line (length a ∷ []) (length b ∷ []) _ _ refl p q f in
    let g = sym (append_assoc a (10 ∷ []) x) ∙ r.1 ∙ append_assoc b (10 ∷ []) y in
    let s = split_same a b (10 ∷ x) (10 ∷ y) (ap (λ (l : List ℕ). slice_index l 0) r.0) g in
    (ap (λ (l : List ℕ). reply.Fetched l) s.0, ap (drop 1) s.1)

copied_read : (a b : Uid) (x y : List ℕ) → ReplyHasWords (reply.Copied a) → ReplyHasWords (reply.Copied b) → reply_text (reply.Copied a) ++ x ≡ reply_text (reply.Copied b) ++ y → (reply.Copied a ≡ reply.Copied b) × (x ≡ y)
copied_read a b x y p q e =
    let r = numbers_line (a.0 ∷ []) (b.0 ∷ []) x y refl p q e in
    (ap (λ (u : Uid). reply.Copied u) (uid_same a b (ap (λ (l : List ℕ). slice_index l 0) r.0)), r.1)

moved_line : (a b : Uid) (g h : Bool) (x y : List ℕ) → reply_text (reply.Moved a g) ++ x ≡ reply_text (reply.Moved b h) ++ y → numbers_text (a.0 ∷ []) ++ (gone_text g ++ 10 ∷ x) ≡ numbers_text (b.0 ∷ []) ++ (gone_text h ++ 10 ∷ y)
moved_line a b g h x y e = sym (with_text a.0 (gone_text g) x) ∙ line_same (numbers_text (a.0 ∷ []) ++ gone_text g) (numbers_text (b.0 ∷ []) ++ gone_text h) x y e ∙ with_text b.0 (gone_text h) y

moved_read : (a b : Uid) (g h : Bool) (x y : List ℕ) → ReplyHasWords (reply.Moved a g) → ReplyHasWords (reply.Moved b h) → reply_text (reply.Moved a g) ++ x ≡ reply_text (reply.Moved b h) ++ y → (reply.Moved a g ≡ reply.Moved b h) × (x ≡ y)
moved_read a b true true x y p q e =
    let r = number_read a.0 b.0 _ _ p.0 q.0 (moved_line a b true true x y e) in
    (ap (λ (u : Uid). reply.Moved u true) (uid_same a b r.0), ap (drop 5) r.1)
moved_read a b false false x y p q e =
    let r = numbers_read 10 (a.0 ∷ []) (b.0 ∷ []) x y refl refl p q (moved_line a b false false x y e) in
    (ap (λ (u : Uid). reply.Moved u false) (uid_same a b (ap (λ (l : List ℕ). slice_index l 0) r.0)), r.1)
moved_read a b true false x y p q e = absurd (let z = mark_read a.0 b.0 32 10 _ _ refl refl p.0 q.0 (moved_line a b true false x y e) in omega (arith, z))
moved_read a b false true x y p q e = absurd (let z = mark_read a.0 b.0 10 32 _ _ refl refl p.0 q.0 (moved_line a b false true x y e) in omega (arith, z))

abbrev counted_of : List ℕ → Reply
counted_of ns = reply.Counted (slice_index ns 0) (slice_index ns 1) (slice_index ns 2) (slice_index ns 3)

abbrev purged_of : List ℕ → Reply
purged_of ns = reply.Purged (slice_index ns 0) (slice_index ns 1) (slice_index ns 2)

abbrev resynced_of : List ℕ → Reply
resynced_of ns = reply.Resynced (slice_index ns 0) (slice_index ns 1)

-- ---- a reply

done_read : (b : Reply) (asked : Request) (x y : List ℕ) → IsReplyTo asked reply.Done → IsReplyTo asked b → reply_text reply.Done ++ x ≡ reply_text b ++ y → (reply.Done ≡ b) × (x ≡ y)
done_read reply.Done asked x y p q e = (refl, ap (drop 3) e)
done_read (reply.Refused s) asked x y p q e = absurd (apart _ _ refl refl e)
done_read other (request.Flag name uid flags) x y p q e = absurd q
done_read other (request.Expunge name uid) x y p q e = absurd q
done_read other (request.Keywords name uid words) x y p q e = absurd q
done_read other (request.Make name) x y p q e = absurd q
done_read other (request.Delete name) x y p q e = absurd q
done_read other (request.Rename name target) x y p q e = absurd q
done_read other asked x y p q e = absurd p

-- no request is answered so yet
no_altmove : (asked : Request) (moved dropped : ℕ) → IsReplyTo asked (reply.AltMoved moved dropped) → ⊥
no_altmove request.Counts moved dropped p = p
no_altmove asked moved dropped p = p

pub reply_read : (asked : Request) (a b : Reply) (x y : List ℕ) → IsReplyTo asked a → IsReplyTo asked b → ReplyHasWords a → ReplyHasWords b → reply_text a ++ x ≡ reply_text b ++ y → (a ≡ b) × (x ≡ y)
reply_read asked (reply.Refused r) b x y p q v w e = refused_first asked r b x y q v w e
  where
    refused_first : (asked : Request) (r : Refusal) (b : Reply) (x y : List ℕ) → IsReplyTo asked b → ReplyHasWords (reply.Refused r) → ReplyHasWords b → reply_text (reply.Refused r) ++ x ≡ reply_text b ++ y → (reply.Refused r ≡ b) × (x ≡ y)
    refused_first asked r (reply.Refused s) x y q v w e = refused_read r s x y v w e
    refused_first asked r (reply.Saved uid guid) x y q v w e = absurd (apart _ _ refl refl (sym e))
    refused_first asked r (reply.Listed rows) x y q v w e = absurd (apart _ _ refl refl (sym e))
    refused_first asked r (reply.Fetched octets) x y q v w e = absurd (apart _ _ refl refl (sym e))
    refused_first asked r reply.Done x y q v w e = absurd (apart _ _ refl refl (sym e))
    refused_first asked r (reply.Copied uid) x y q v w e = absurd (apart _ _ refl refl (sym e))
    refused_first asked r (reply.Moved uid gone) x y q v w e = absurd (apart _ _ refl refl (sym e))
    refused_first asked r (reply.Counted k l m n) x y q v w e = absurd (apart _ _ refl refl (sym e))
    refused_first asked r (reply.Purged k l m) x y q v w e = absurd (apart _ _ refl refl (sym e))
    refused_first asked r (reply.Resynced k l) x y q v w e = absurd (apart _ _ refl refl (sym e))
    refused_first asked r (reply.AltMoved k l) x y q v w e = absurd (apart _ _ refl refl (sym e))
reply_read asked (reply.Saved uid guid) b x y p q v w e = saved_first asked b p q w e
  where
    saved_first : (asked : Request) (b : Reply) → IsReplyTo asked (reply.Saved uid guid) → IsReplyTo asked b → ReplyHasWords b → reply_text (reply.Saved uid guid) ++ x ≡ reply_text b ++ y → (reply.Saved uid guid ≡ b) × (x ≡ y)
    saved_first (request.Deliver name time message) (reply.Saved other h) p q w e = saved_read uid other guid h x y v w e
    saved_first (request.Deliver name time message) (reply.Refused s) p q w e = absurd (apart _ _ refl refl e)
    saved_first (request.Deliver name time message) other p q w e = absurd q
    saved_first asked other p q w e = absurd p
reply_read asked (reply.Listed rows) b x y p q v w e = listed_first asked b p q w e
  where
    listed_first : (asked : Request) (b : Reply) → IsReplyTo asked (reply.Listed rows) → IsReplyTo asked b → ReplyHasWords b → reply_text (reply.Listed rows) ++ x ≡ reply_text b ++ y → (reply.Listed rows ≡ b) × (x ≡ y)
    listed_first (request.List name) (reply.Listed others) p q w e = listed_read rows others x y v w e
    listed_first (request.List name) (reply.Refused s) p q w e = absurd (apart _ _ refl refl e)
    listed_first (request.List name) other p q w e = absurd q
    listed_first asked other p q w e = absurd p
reply_read asked (reply.Fetched octets) b x y p q v w e = fetched_first asked b p q w e
  where
    fetched_first : (asked : Request) (b : Reply) → IsReplyTo asked (reply.Fetched octets) → IsReplyTo asked b → ReplyHasWords b → reply_text (reply.Fetched octets) ++ x ≡ reply_text b ++ y → (reply.Fetched octets ≡ b) × (x ≡ y)
    fetched_first (request.Fetch name uid) (reply.Fetched others) p q w e = fetched_read octets others x y v w e
    fetched_first (request.Fetch name uid) (reply.Refused s) p q w e = absurd (apart _ _ refl refl e)
    fetched_first (request.Fetch name uid) other p q w e = absurd q
    fetched_first asked other p q w e = absurd p
reply_read asked reply.Done b x y p q v w e = done_read b asked x y p q e
reply_read asked (reply.Copied uid) b x y p q v w e = copied_first asked b p q w e
  where
    copied_first : (asked : Request) (b : Reply) → IsReplyTo asked (reply.Copied uid) → IsReplyTo asked b → ReplyHasWords b → reply_text (reply.Copied uid) ++ x ≡ reply_text b ++ y → (reply.Copied uid ≡ b) × (x ≡ y)
    copied_first (request.Copy name from target) (reply.Copied other) p q w e = copied_read uid other x y v w e
    copied_first (request.Copy name from target) (reply.Refused s) p q w e = absurd (apart _ _ refl refl e)
    copied_first (request.Copy name from target) other p q w e = absurd q
    copied_first asked other p q w e = absurd p
reply_read asked (reply.Moved uid gone) b x y p q v w e = moved_first asked b p q w e
  where
    moved_first : (asked : Request) (b : Reply) → IsReplyTo asked (reply.Moved uid gone) → IsReplyTo asked b → ReplyHasWords b → reply_text (reply.Moved uid gone) ++ x ≡ reply_text b ++ y → (reply.Moved uid gone ≡ b) × (x ≡ y)
    moved_first (request.Move name from target) (reply.Moved other h) p q w e = moved_read uid other gone h x y v w e
    moved_first (request.Move name from target) (reply.Refused s) p q w e = absurd (apart _ _ refl refl e)
    moved_first (request.Move name from target) other p q w e = absurd q
    moved_first asked other p q w e = absurd p
reply_read asked (reply.Counted k l m n) b x y p q v w e = counted_first asked b p q w e
  where
    counted_first : (asked : Request) (b : Reply) → IsReplyTo asked (reply.Counted k l m n) → IsReplyTo asked b → ReplyHasWords b → reply_text (reply.Counted k l m n) ++ x ≡ reply_text b ++ y → (reply.Counted k l m n ≡ b) × (x ≡ y)
    counted_first request.Counts (reply.Counted s t u z) p q w e =
        let r = numbers_line (k ∷ l ∷ m ∷ n ∷ []) (s ∷ t ∷ u ∷ z ∷ []) x y refl v w e in
        (ap counted_of r.0, r.1)
    counted_first request.Counts (reply.Refused s) p q w e = absurd (apart _ _ refl refl e)
    counted_first request.Counts other p q w e = absurd q
    counted_first asked other p q w e = absurd p
reply_read asked (reply.Purged k l m) b x y p q v w e = purged_first asked b p q w e
  where
    purged_first : (asked : Request) (b : Reply) → IsReplyTo asked (reply.Purged k l m) → IsReplyTo asked b → ReplyHasWords b → reply_text (reply.Purged k l m) ++ x ≡ reply_text b ++ y → (reply.Purged k l m ≡ b) × (x ≡ y)
    purged_first request.Purge (reply.Purged s t u) p q w e =
        let r = numbers_line (k ∷ l ∷ m ∷ []) (s ∷ t ∷ u ∷ []) x y refl v w e in
        (ap purged_of r.0, r.1)
    purged_first request.Purge (reply.Refused s) p q w e = absurd (apart _ _ refl refl e)
    purged_first request.Purge other p q w e = absurd q
    purged_first asked other p q w e = absurd p
reply_read asked (reply.Resynced k l) b x y p q v w e = resynced_first asked b p q w e
  where
    resynced_first : (asked : Request) (b : Reply) → IsReplyTo asked (reply.Resynced k l) → IsReplyTo asked b → ReplyHasWords b → reply_text (reply.Resynced k l) ++ x ≡ reply_text b ++ y → (reply.Resynced k l ≡ b) × (x ≡ y)
    resynced_first request.Resync (reply.Resynced s t) p q w e =
        let r = numbers_line (k ∷ l ∷ []) (s ∷ t ∷ []) x y refl v w e in
        (ap resynced_of r.0, r.1)
    resynced_first request.Resync (reply.Refused s) p q w e = absurd (apart _ _ refl refl e)
    resynced_first request.Resync other p q w e = absurd q
    resynced_first asked other p q w e = absurd p
reply_read asked (reply.AltMoved k l) b x y p q v w e = absurd (no_altmove asked k l p)

-- ---- a reply with its number and places

glyph : (d : ℕ) → d < 10 → IsTrue (is_digit (digit_glyph false d))
glyph d l = grind (arith, common_steps, l)

digits_more : (k n : ℕ) (acc : List ℕ) → IsTrue (list_all is_digit acc) → IsTrue (list_all is_digit (digits_onto k 10 false n acc))
digits_more zero n acc h = h
digits_more (suc k) n acc h =
    let more : IsTrue (list_all is_digit (digit_glyph false (n % 10) ∷ acc)) = both (is_digit (digit_glyph false (n % 10))) (list_all is_digit acc) (glyph (n % 10) (omega arith)) h in
    by_test _ _ (n / 10 == 0) more (digits_more k (n / 10) (digit_glyph false (n % 10) ∷ acc) more)
  where
    by_test : (xs ys : List ℕ) (b : Bool) → IsTrue (list_all is_digit xs) → IsTrue (list_all is_digit ys) → IsTrue (list_all is_digit (if b then xs else ys))
    by_test xs ys true v w = v
    by_test xs ys false v w = w

every_digit : (n : ℕ) → IsTrue (list_all is_digit (decimal_text n))
unfolding digits
every_digit n = digits_more 64 n [] refl

place_clear : (place : Option ℕ) → IsTrue (list_all (is_other_than 32) (place_text place))
place_clear None = refl
place_clear (Some n) = others 32 (decimal_text n) refl (every_digit n)

all_joined : (p : ℕ → Bool) (xs ys : List ℕ) → IsTrue (list_all p xs) → IsTrue (list_all p ys) → IsTrue (list_all p (xs ++ ys))
all_joined p [] ys h k = k
all_joined p (x ∷ xs) ys h k = both (p x) _ (first (p x) _ h) (all_joined p xs ys (second (p x) _ h) k)

places_clear : (at : Places) → IsTrue (list_all (is_other_than 32) (places_text at))
places_clear (places.One step) = place_clear step
places_clear (places.Two copied removed) = all_joined (is_other_than 32) (place_text copied) (44 ∷ place_text removed) (place_clear copied) (place_clear removed)

front_first : (n : ℕ) (at : Places) (t x : List ℕ) → (front_text n at ++ t) ++ x ≡ decimal_text n ++ 32 ∷ (places_text at ++ 32 ∷ (t ++ x))
front_first n at t x =
    append_assoc (front_text n at) t x
    ∙ append_assoc (decimal_text n) (32 ∷ (places_text at ++ 32 ∷ [])) (t ++ x)
    ∙ ap (λ (l : List ℕ). decimal_text n ++ 32 ∷ l) (append_assoc (places_text at) (32 ∷ []) (t ++ x))

numbered_read : (n : ℕ) (at by : Places) (asked : Request) (a b : Reply) (x y : List ℕ) → IsReplyTo asked a → IsReplyTo asked b → ReplyHasWords a → ReplyHasWords b → numbered_text n at a ++ x ≡ numbered_text n by b ++ y → (a ≡ b) × (x ≡ y)
numbered_read n at by asked a b x y p q v w e =
    let f = sym (front_first n at (reply_text a) x) ∙ e ∙ front_first n by (reply_text b) y in
    let g = split_same (decimal_text n) (decimal_text n) _ _ refl f in
    let r = until_same 32 (places_text at) (places_text by) (reply_text a ++ x) (reply_text b ++ y) (places_clear at) (places_clear by) (ap (drop 1) g.1) in
    reply_read asked a b x y p q v w r.1

-- ---- the replies of a script

script_read : (script : List (ℕ × Request)) (i j : List JournalEntry) (n : ℕ) (a b : List Reply) (x y : List ℕ) → AreRepliesTo script a → AreRepliesTo script b → AllByRecursion ReplyHasWords a → AllByRecursion ReplyHasWords b
    → replies_from i n (map Some a) ++ x ≡ replies_from j n (map Some b) ++ y → (a ≡ b) × (x ≡ y)
script_read [] i j n [] [] x y p q v w e = (refl, e)
script_read [] i j n (g ∷ a) b x y p q v w e = absurd p
script_read [] i j n [] (h ∷ b) x y p q v w e = absurd q
script_read (asked ∷ script) i j n [] b x y p q v w e = absurd p
script_read (asked ∷ script) i j n (g ∷ a) [] x y p q v w e = absurd q
script_read (asked ∷ script) i j n (g ∷ a) (h ∷ b) x y p q v w e =
    let at = places_told (request_steps i n) g in
    let by = places_told (request_steps j n) h in
    let f = sym (append_assoc (numbered_text (n + 1) at g) (replies_from i (n + 1) (map Some a)) x) ∙ e ∙ append_assoc (numbered_text (n + 1) by h) (replies_from j (n + 1) (map Some b)) y in
    let r = numbered_read (n + 1) at by asked.1 g h _ _ p.0 q.0 v.0 w.0 f in
    let s = script_read script i j (n + 1) a b x y p.1 q.1 v.1 w.1 r.1 in
    (ap (λ (k : Reply). k ∷ a) r.0 ∙ ap (λ (t : List Reply). h ∷ t) s.0, s.1)

pub batch_read : (script : List (ℕ × Request)) (i j : List JournalEntry) (a b : List Reply) (x y : List ℕ) → AreRepliesTo script a → AreRepliesTo script b → All ReplyHasWords a → All ReplyHasWords b
    → replies_from i 0 (map Some a) ++ x ≡ replies_from j 0 (map Some b) ++ y → (a ≡ b) × (x ≡ y)
batch_read script i j a b x y p q v w e = script_read script i j 0 a b x y p q (each_of ReplyHasWords a v) (each_of ReplyHasWords b w) e

-- ---- a prefix

replies_cut : (j : List JournalEntry) (k : ℕ) (b : List Reply) (n : ℕ) → (rest : List ℕ) × (replies_from j k (map Some b) ≡ replies_from j k (map Some (take n b)) ++ rest)
replies_cut j k b zero = (replies_from j k (map Some b), refl)
replies_cut j k [] (suc n) = ([], refl)
replies_cut j k (h ∷ b) (suc n) =
    let r = replies_cut j (k + 1) b n in
    let own = numbered_text (k + 1) (places_told (request_steps j k) h) h in
    (r.0, ap (λ (l : List ℕ). own ++ l) r.1 ∙ sym (append_assoc own (replies_from j (k + 1) (map Some (take n b))) r.0))

first_replies : (script : List (ℕ × Request)) (a : List Reply) (n : ℕ) → AreRepliesTo script a → AreRepliesTo (take n script) (take n a)
first_replies script a zero p = tt
first_replies [] [] (suc n) p = tt
first_replies [] (g ∷ a) (suc n) p = absurd p
first_replies (asked ∷ script) [] (suc n) p = absurd p
first_replies (asked ∷ script) (g ∷ a) (suc n) p = (p.0, first_replies script a n p.1)

first_words : (a : List Reply) (n : ℕ) → AllByRecursion ReplyHasWords a → AllByRecursion ReplyHasWords (take n a)
first_words a zero v = tt
first_words [] (suc n) v = tt
first_words (g ∷ a) (suc n) v = (v.0, first_words a n v.1)

pub prefix_read : (script : List (ℕ × Request)) (i j : List JournalEntry) (a b : List Reply) (n : ℕ) (printed cut rest : List ℕ) → AreRepliesTo script a → AreRepliesTo script b → All ReplyHasWords a → All ReplyHasWords b
    → printed ≡ replies_from i 0 (map Some (take n a)) ++ cut → printed ++ rest ≡ replies_from j 0 (map Some b) → take n a ≡ take n b
prefix_read script i j a b n printed cut rest p q v w front whole =
    let r = replies_cut j 0 b n in
    let e = sym (append_assoc (replies_from i 0 (map Some (take n a))) cut rest) ∙ ap (λ (l : List ℕ). l ++ rest) (sym front) ∙ whole ∙ r.1 in
    (script_read (take n script) i j 0 (take n a) (take n b) (cut ++ rest) r.0 (first_replies script a n p) (first_replies script b n q) (first_words a n (each_of ReplyHasWords a v)) (first_words b n (each_of ReplyHasWords b w)) e).0
