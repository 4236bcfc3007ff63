-- The values of the words of a key, word by word. Assumes nothing.
use Rattle.std.proofs.Common.{◌≡◌, ℕ, ◌+◌, ◌<◌, true, false, List, [], ◌∷◌, ◌++◌, map, length, get_or, take, drop, is_some, Some, None, Err, Option, sym, refl, ap, ◌∙◌, Bor, rules}
use Rattle.std.specs.Option.{option_map}
use Rattle.std.proofs.lemmas.List.{append-nil, append_assoc, take-append-drop, map-append, map_more}
use Rattle.line_fault.specs.declared.Key.{Key}
use Rattle.line_fault.specs.declared.LineFault.TheVariants.{Twice}
use Rattle.keyed.specs.Keyed.{as_list, value_of, values, Given}

values-append : (key : Key) (vs ws : List (List ℕ)) → values key (vs ++ ws) ≡ values key vs ++ values key ws
values-append key [] ws = refl
values-append key (v ∷ vs) ws = ap (λ (t : List (List ℕ)). as_list (value_of key v) ++ t) (values-append key vs ws) ∙ sym (append_assoc (as_list (value_of key v)) (values key vs) (values key ws))

values_of_one : (key : Key) (w : List ℕ) → values key (w ∷ []) ≡ as_list (value_of key w)
values_of_one key w = append-nil (as_list (value_of key w))

abbrev texts : List (Bor (List ℕ)) → List (List ℕ)
texts ws = map (λ w. w.now) ws

-- the values of the words before i are what was found
abbrev pub Found : Key → List (Bor (List ℕ)) → ℕ → Option (Bor (List ℕ)) → Type 0
Found key ws i found = values key (map (λ w. w.now) (take i ws)) ≡ as_list (option_map (λ x. x.now) found)

values-at : (key : Key) (ws : List (Bor (List ℕ))) (i : ℕ) (d : Bor (List ℕ)) → i < length ws → values key (texts (take (i + 1) ws)) ≡ values key (texts (take i ws)) ++ as_list (value_of key (get_or ws i d).now)
values-at key ws i d lt =
    ap (λ (t : List (List ℕ)). values key t) (map_more (λ (w : Bor (List ℕ)). w.now) ws i d lt)
    ∙ values-append key (texts (take i ws)) ((get_or ws i d).now ∷ [])
    ∙ ap (λ (t : List (List ℕ)). values key (texts (take i ws)) ++ t) (values_of_one key (get_or ws i d).now)

after-some : (key : Key) (ws : List (Bor (List ℕ))) (i : ℕ) (d v : Bor (List ℕ)) (found : Option (Bor (List ℕ))) → i < length ws → Some v.now ≡ value_of key (get_or ws i d).now → Found key ws i found → values key (texts (take (i + 1) ws)) ≡ as_list (option_map (λ x. x.now) found) ++ (v.now ∷ [])
after-some key ws i d v found lt e inv =
    values-at key ws i d lt
    ∙ ap (λ (t : List (List ℕ)). t ++ as_list (value_of key (get_or ws i d).now)) inv
    ∙ ap (λ (o : Option (List ℕ)). as_list (option_map (λ x. x.now) found) ++ as_list o) (sym e)

pub first_found : (key : Key) (ws : List (Bor (List ℕ))) (i : ℕ) (d v : Bor (List ℕ)) (found later : Option (Bor (List ℕ))) → i < length ws → is_some found ≡ false → later ≡ Some v → Some v.now ≡ value_of key (get_or ws i d).now → Found key ws i found → Found key ws (i + 1) later
first_found key ws i d v None later lt none e h inv = after-some key ws i d v None lt h inv ∙ ap (λ (o : Option (Bor (List ℕ))). as_list (option_map (λ x. x.now) o)) (sym e)
first_found key ws i d v (Some u) later lt none e h inv = absurd (search rules)

pub none_found : (key : Key) (ws : List (Bor (List ℕ))) (i : ℕ) (d : Bor (List ℕ)) (found later : Option (Bor (List ℕ))) → i < length ws → later ≡ found → None ≡ value_of key (get_or ws i d).now → Found key ws i found → Found key ws (i + 1) later
none_found key ws i d found later lt e h inv =
    values-at key ws i d lt
    ∙ ap (λ (o : Option (List ℕ)). values key (texts (take i ws)) ++ as_list o) (sym h)
    ∙ append-nil (values key (texts (take i ws)))
    ∙ inv
    ∙ ap (λ (o : Option (Bor (List ℕ))). as_list (option_map (λ x. x.now) o)) (sym e)

apart : (key : Key) (ws : List (Bor (List ℕ))) (i : ℕ) → values key (texts ws) ≡ values key (texts (take i ws)) ++ values key (texts (drop i ws))
apart key ws i =
    ap (λ (l : List (Bor (List ℕ))). values key (texts l)) (sym (take-append-drop i ws))
    ∙ ap (λ (t : List (List ℕ)). values key t) (map-append (λ (w : Bor (List ℕ)). w.now) (take i ws) (drop i ws))
    ∙ values-append key (texts (take i ws)) (texts (drop i ws))

pub second_found : (key : Key) (ws : List (Bor (List ℕ))) (said : List (List ℕ)) (i : ℕ) (d v : Bor (List ℕ)) (found : Option (Bor (List ℕ))) → texts ws ≡ said → i < length ws → is_some found ≡ true → Some v.now ≡ value_of key (get_or ws i d).now → Found key ws i found → Given key (values key said) (Err (Twice key))
second_found key ws said i d v None same lt some h inv = absurd (search rules)
second_found key ws said i d v (Some u) same lt some h inv =
    (u.now, v.now, values key (texts (drop (i + 1) ws)), ap (values key) (sym same) ∙ apart key ws (i + 1) ∙ ap (λ (t : List (List ℕ)). t ++ values key (texts (drop (i + 1) ws))) (after-some key ws i d v (Some u) lt h inv), refl)
