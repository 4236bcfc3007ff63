-- What changes of the records do to the levels that they stand for.
use Rattle.std.proofs.Common.{◌≡◌, ℕ, suc, ◌+◌, ◌-◌, ◌<◌, ◌≤◌, List, [], ◌∷◌, ◌++◌, length, get_or, take, drop, set, replicate, ℤ, pos, Result, sym, refl, ap, ◌∙◌, arith}
use Rattle.std.proofs.lemmas.List.{append_assoc, length-append, length-replicate, length-take-le, length-drop, take_more_set, drop-set-lt, take_at, drop_at, set_at, take_all, replicate-append-replicate, take-append-drop, take_more, length-set}
use Rattle.std.proofs.lemmas.List.Elements.{All-cons, All-append, All-take, All-drop}
use Rattle.store.specs.declared.growing.GrowingList.{GrowingList}
use Rattle.store.specs.declared.reading.Spot.{Spot}
use Rattle.store.specs.declared.refusal.Refusal.{Refusal}
use Rattle.store.specs.Growing.{list_items, list_most, Written, Placed}
use Rattle.store.proofs.Growths.{placed_if}
use Rattle.runs.specs.declared.Run.{Run}
use Rattle.runs.specs.Runs.{spread, NoneEmpty, Located, unless_empty}
use Rattle.runs.proofs.Spots.{located-at}
use Rattle.runs.proofs.Spreads.{unless_long, record_fits, spread-append, spread_single, spread-parted, spread_unless, unless_none_empty}

abbrev pub run_of : ℤ → ℕ → Run
run_of l n = record { level = l; count = n }

-- the records before i
pub spread-take : (items : List Run) (i : ℕ) → spread (take i items) ≡ take (length (spread (take i items))) (spread items)
spread-take items i =
    sym (ap (take (length (spread (take i items)))) (ap spread (sym (take-append-drop i items)) ∙ spread-append (take i items) (drop i items)) ∙ take_at (spread (take i items)) (spread (drop i items)) (length (spread (take i items))) refl)

-- the record i, cut at off
module _ (items : List Run) (i off : ℕ) (d : Run) (here : i < length items) (within : off ≤ (get_or items i d).count) where
  abbrev cut_record : Run
  cut_record = get_or items i d

  pub spread_cut : spread items ≡ (spread (take i items) ++ replicate off cut_record.level) ++ (replicate (cut_record.count - off) cut_record.level ++ spread (drop (i + 1) items))
  spread_cut =
      let r = cut_record in
      let front = spread (take i items) in
      let back = spread (drop (i + 1) items) in
      let n : off + (r.count - off) ≡ r.count = omega arith in
      let split : replicate r.count r.level ≡ replicate off r.level ++ replicate (r.count - off) r.level =
      ap (λ k. replicate k r.level) (sym n) ∙ sym (replicate-append-replicate off (r.count - off) r.level) in
      spread-parted items i d here ∙ ap (λ q. front ++ (q ++ back)) split
      ∙ ap (λ q. front ++ q) (append_assoc (replicate off r.level) (replicate (r.count - off) r.level) back)
      ∙ sym (append_assoc front (replicate off r.level) (replicate (r.count - off) r.level ++ back))

  pub cut_long : length (spread (take i items) ++ replicate off cut_record.level) ≡ length (spread (take i items)) + off
  cut_long = length-append (spread (take i items)) (replicate off cut_record.level) ∙ ap (λ k. length (spread (take i items)) + k) (length-replicate off cut_record.level)

  -- the record keeps off levels, and those behind it go
  pub trimmed : spread (take (i + 1) (set items i (run_of cut_record.level off))) ≡ take (length (spread (take i items)) + off) (spread items)
  trimmed =
      let r = run_of cut_record.level off in
      let kept = length (spread (take i items)) + off in
      ap spread (take_more_set items i r here) ∙ spread-append (take i items) (r ∷ []) ∙ ap (λ q. spread (take i items) ++ q) (spread_single r)
      ∙ sym (ap (take kept) spread_cut ∙ take_at (spread (take i items) ++ replicate off cut_record.level) _ kept cut_long)

-- the last record grows
pub lengthened : (items : List Run) (i count : ℕ) (d : Run) → i + 1 ≡ length items
    → spread (set items i (run_of (get_or items i d).level ((get_or items i d).count + count))) ≡ spread items ++ replicate count (get_or items i d).level
lengthened items i count d last =
    let here : i < length items = omega arith in
    let r = get_or items i d in
    let q = run_of r.level (r.count + count) in
    let a = spread (take i items) in
    let new : set items i q ≡ take i items ++ (q ∷ []) = sym (take_all (i + 1) (set items i q) (omega (arith, length-set items i q))) ∙ take_more_set items i q here in
    let old : items ≡ take i items ++ (r ∷ []) = sym (take_all (i + 1) items (omega arith)) ∙ take_more items i d here in
    let all : spread items ≡ a ++ replicate r.count r.level = ap spread old ∙ spread-append (take i items) (r ∷ []) ∙ ap (λ z. a ++ z) (spread_single r) in
    ap spread new ∙ spread-append (take i items) (q ∷ []) ∙ ap (λ z. a ++ z) (spread_single q)
    ∙ ap (λ z. a ++ z) (sym (replicate-append-replicate r.count count r.level)) ∙ sym (append_assoc a (replicate r.count r.level) (replicate count r.level)) ∙ ap (λ z. z ++ replicate count r.level) (sym all)

-- the levels of a record before the one that has rest levels behind it
abbrev pub before_of : Run → ℕ → Run
before_of r rest = run_of r.level (r.count - rest - 1)

-- the levels from a place on go
pub trimmed_at : (items : List Run) (t : Spot) (place : ℕ) (kept : Run) → Located items place t → ((d : Run) → kept ≡ before_of (get_or items t.index d) t.offset)
    → spread (take (t.index + 1) (set items t.index kept)) ≡ take place (spread items)
trimmed_at items t place kept at is =
    let d = run_of (pos 0) 0 in
    ap (λ q. spread (take (t.index + 1) (set items t.index q))) (is d) ∙ trimmed items t.index ((get_or items t.index d).count - t.offset - 1) d at.within (omega arith)
    ∙ ap (λ k. take k (spread items)) (sym (located-at items place t at d))

-- the level at a place is replaced: what stands of its record before and behind it is put beside it
module _ (items : List Run) (t : Spot) (place : ℕ) (at : Located items place t) (d : Run) (level : ℤ) where
  abbrev old : Run
  old = get_or items t.index d

  abbrev off : ℕ
  off = old.count - t.offset - 1

  abbrev before : List Run
  before = take t.index items

  abbrev behind : List Run
  behind = unless_empty old.level t.offset ++ drop (t.index + 1) items

  -- the records once the level and what is behind it have theirs
  abbrev pub begun : List Run
  begun = before ++ (run_of level 1 ∷ behind)

  -- the records once all three have theirs
  abbrev pub parts : List Run
  parts = before ++ (unless_empty old.level off ++ (run_of level 1 ∷ behind))

  long : length before ≡ t.index
  long = length-take-le t.index items (omega (arith, at.within))

  pub begun_is : (r : Run) (one two : List Run) → r ≡ old → one ≡ set items t.index (run_of level 1)
      → two ≡ take (t.index + 1) one ++ (unless_empty r.level t.offset ++ drop (t.index + 1) one)
      → two ≡ begun
  begun_is r one two same first second =
      let i = t.index in
      second ∙ ap (λ q. take (i + 1) one ++ (unless_empty q.level t.offset ++ drop (i + 1) one)) same
      ∙ ap (λ q. take (i + 1) q ++ (unless_empty old.level t.offset ++ drop (i + 1) q)) first
      ∙ ap (λ q. q ++ (unless_empty old.level t.offset ++ drop (i + 1) (set items i (run_of level 1)))) (take_more_set items i (run_of level 1) at.within)
      ∙ ap (λ q. (before ++ (run_of level 1 ∷ [])) ++ (unless_empty old.level t.offset ++ q)) (drop-set-lt (i + 1) items i (run_of level 1) (omega arith))
      ∙ append_assoc before (run_of level 1 ∷ []) behind

  begun_long : length begun ≡ length items + length (unless_empty old.level t.offset)
  begun_long = omega (arith, at.within, length-append before (run_of level 1 ∷ behind), long, length-append (unless_empty old.level t.offset) (drop (t.index + 1) items), length-drop (t.index + 1) items)

  -- each record has a place
  pub begun_fits : (most : ℕ) → NoneEmpty items → length (spread items) ≤ most → 0 < off → length begun < most
  begun_fits most some room more =
      omega (arith, at.inside d, begun_long, unless_long old.level t.offset, record_fits items t.index d at.within some)

  pub parts_are : (kept : Run) (two three : List Run) → kept ≡ before_of old t.offset → two ≡ begun
      → three ≡ take t.index two ++ (unless_empty kept.level kept.count ++ drop t.index two)
      → three ≡ parts
  parts_are kept two three is second third =
      let i = t.index in
      third ∙ ap (λ q. take i two ++ (unless_empty q.level q.count ++ drop i two)) is
      ∙ ap (λ q. take i q ++ (unless_empty old.level off ++ drop i q)) second
      ∙ ap (λ q. q ++ (unless_empty old.level off ++ drop i begun)) (take_at before (run_of level 1 ∷ behind) i long)
      ∙ ap (λ q. before ++ (unless_empty old.level off ++ q)) (drop_at before (run_of level 1 ∷ behind) i long)

  pub parts-none_empty : NoneEmpty items → NoneEmpty parts
  parts-none_empty some =
      let P : Run → Type 0 = λ r. 0 < r.count in
      All-append P before _ (All-take P t.index items some)
      (All-append P (unless_empty old.level off) _ (unless_none_empty old.level off)
      (All-cons P (run_of level 1) behind (omega arith) (All-append P (unless_empty old.level t.offset) _ (unless_none_empty old.level t.offset) (All-drop P (t.index + 1) items some))))

  abbrev tail : List ℤ
  tail = replicate t.offset old.level ++ spread (drop (t.index + 1) items)

  abbrev head : List ℤ
  head = spread before ++ replicate off old.level

  parts_spread : spread parts ≡ head ++ (level ∷ tail)
  parts_spread =
      let back : spread behind ≡ tail = spread-append (unless_empty old.level t.offset) (drop (t.index + 1) items) ∙ ap (λ q. q ++ spread (drop (t.index + 1) items)) (spread_unless old.level t.offset) in
      spread-append before (unless_empty old.level off ++ (run_of level 1 ∷ behind))
      ∙ ap (λ q. spread before ++ q) (spread-append (unless_empty old.level off) (run_of level 1 ∷ behind))
      ∙ ap (λ q. spread before ++ (q ++ (level ∷ spread behind))) (spread_unless old.level off)
      ∙ ap (λ q. spread before ++ (replicate off old.level ++ (level ∷ q))) back
      ∙ sym (append_assoc (spread before) (replicate off old.level) (level ∷ tail))

  old_spread : spread items ≡ head ++ (old.level ∷ tail)
  old_spread =
      let k : old.count - off ≡ suc t.offset = omega (arith, at.inside d) in
      spread_cut items t.index off d at.within (omega arith) ∙ ap (λ q. head ++ (replicate q old.level ++ spread (drop (t.index + 1) items))) k

  pub replaced : spread parts ≡ set (spread items) place level
  replaced =
      parts_spread ∙ sym (ap (λ q. set q place level) old_spread ∙ set_at head old.level tail level place (cut_long items t.index off d at.within (omega arith) ∙ sym (located-at items place t at d)))

-- a split after its first two calls: of the list behind each, what the third needs
module _ (s one : GrowingList Run) (t : Spot) (place : ℕ) (at : Located (list_items s) place t) (level : ℤ) (done : Result (Unit {0}) Refusal) (put : Written s one t.index (run_of level 1) done) where
  first : Placed s one t.index (run_of level 1)
  first = placed_if s one t.index (run_of level 1) done put at.within

  pub split_first : (length (list_items one) ≡ length (list_items s)) × (list_most one ≡ list_most s)
  split_first = (ap length first.list ∙ length-set (list_items s) t.index (run_of level 1), omega (arith, first.size))

  pub split_second : (r : Run) (two : List Run) → ((d : Run) → r ≡ get_or (list_items s) t.index d)
      → two ≡ take (t.index + 1) (list_items one) ++ (unless_empty r.level t.offset ++ drop (t.index + 1) (list_items one))
      → two ≡ begun (list_items s) t place at r level
  split_second r two read second = begun_is (list_items s) t place at r level r (list_items one) two (read r) first.list second
