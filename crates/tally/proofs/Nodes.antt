-- The size of one slot, by its node.
use Rattle.std.proofs.Common.{◌≡◌, ℕ, ◌+◌, ◌<◌, Bool, true, false, List, length, drop, Some, sym, refl, ap, ◌∙◌, ap₂}
use Rattle.std.proofs.lemmas.List.{at_drop_more}
use Rattle.table.specs.declared.node.Kind.{Kind}
use Rattle.table.specs.declared.leaf_path.PathNode.{PathNode}
use Rattle.table.specs.Paths.{Step, ends, passes, repeats, step_of, no_path_node}
use Rattle.reading.specs.Slots.{Buffers, Span, valid, span_at}
use Rattle.reading.specs.Reading.{child_slots, node_on}
use Rattle.tally.specs.Sizes.{Size, may_size, span_size, spread_size, step_size, size_at}
use Rattle.tally.specs.Reaching.{holds, holds_by, Repeats}

-- a valid slot
abbrev body : Step → Span → (ℕ → Size) → ℕ → Size
body ends sp f i = Some (1, 1)
body passes sp f i = f i
body (repeats s) sp f i = span_size sp (spread_size f)

step_null : (s : Step) (sp : Span) (f : ℕ → Size) (i : ℕ) → step_size s true false sp f i ≡ Some (1, 0)
step_null ends sp f i = refl
step_null passes sp f i = refl
step_null (repeats s) sp f i = refl

may-there : (n : Bool) (x : Size) → may_size n true x ≡ x
may-there true x = refl
may-there false x = refl

step_there : (s : Step) (n : Bool) (sp : Span) (f : ℕ → Size) (i : ℕ) → step_size s n true sp f i ≡ body s sp f i
step_there ends n sp f i = may-there n (Some (1, 1))
step_there passes n sp f i = may-there n (f i)
step_there (repeats s) n sp f i = may-there n (span_size sp (spread_size f))

list_body : (n : PathNode) (k : Kind) → Repeats k → (sp : Span) (f : ℕ → Size) (i : ℕ) → body (step_of n k) sp f i ≡ span_size sp (spread_size f)
list_body n Kind.Leaf h sp f i = absurd h
list_body n Kind.Struct h sp f i = absurd h
list_body n Kind.List h sp f i = refl
list_body n Kind.LargeList h sp f i = refl
list_body n Kind.FixedSizeList h sp f i = refl
list_body n Kind.ListView h sp f i = refl
list_body n Kind.LargeListView h sp f i = refl

module _ (b : Buffers) (ns : List PathNode) (k : ℕ) (lt : k < length ns) where
  abbrev n : PathNode
  n = node_on ns k

  abbrev below : ℕ → Size
  below = size_at b (drop (k + 1) ns)

  abbrev there : ℕ → Bool
  there j = valid b n.validity j

  abbrev held_at : ℕ → Span
  held_at j = span_at b n n.kind (child_slots (drop (k + 1) ns)) j

  node_size : (j : ℕ) → size_at b (drop k ns) j ≡ step_size (step_of n n.kind) n.nullable (there j) (held_at j) below j
  node_size j = at_drop_more (λ l. size_at b l j) ns k no_path_node lt

  pub node-holds : (j : ℕ) → holds b (drop k ns) j ≡ holds_by (step_of n n.kind) (there j) (holds b (drop (k + 1) ns) j)
  node-holds j = at_drop_more (λ l. holds b l j) ns k no_path_node lt

  pub size_null : (j : ℕ) → n.nullable ≡ true → there j ≡ false → size_at b (drop k ns) j ≡ Some (1, 0)
  size_null j p q = node_size j ∙ ap₂ (λ x y. step_size (step_of n n.kind) x y (held_at j) below j) p q ∙ step_null (step_of n n.kind) (held_at j) below j

  size_there : (j : ℕ) → there j ≡ true → size_at b (drop k ns) j ≡ body (step_of n n.kind) (held_at j) below j
  size_there j q = node_size j ∙ ap (λ y. step_size (step_of n n.kind) n.nullable y (held_at j) below j) q ∙ step_there (step_of n n.kind) n.nullable (held_at j) below j

  pub size_leaf : (j : ℕ) → n.kind ≡ Kind.Leaf → there j ≡ true → size_at b (drop k ns) j ≡ Some (1, 1)
  size_leaf j p q = size_there j q ∙ ap (λ z. body (step_of n z) (held_at j) below j) p

  pub size_struct : (j : ℕ) → n.kind ≡ Kind.Struct → there j ≡ true → size_at b (drop k ns) j ≡ size_at b (drop (k + 1) ns) j
  size_struct j p q = size_there j q ∙ ap (λ z. body (step_of n z) (held_at j) below j) p

  pub size_list : (j : ℕ) → Repeats n.kind → there j ≡ true → k + 1 < length ns → (sp : Span) → sp ≡ span_at b n n.kind (node_on ns (k + 1)).slots j → size_at b (drop k ns) j ≡ span_size sp (spread_size (size_at b (drop (k + 1) ns)))
  size_list j h q l sp e =
      size_there j q ∙ list_body n n.kind h (held_at j) below j
      ∙ ap (λ s. span_size s (spread_size below)) (ap (λ z. span_at b n n.kind z j) (at_drop_more child_slots ns (k + 1) no_path_node l) ∙ sym e)
