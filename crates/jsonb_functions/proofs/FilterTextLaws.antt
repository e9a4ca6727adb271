-- Filters in the text of a path.
use Rattle.std.proofs.Common.{◌≡◌, ℕ, List, [], ◌∷◌, ◌++◌, refl, sym, Bool, true, false}
use Rattle.std.proofs.Common.{ap, ◌∙◌, subst, Bor, chars, inl, inr}
use Rattle.std.specs.Prelude.{Option, None, Some, option_map, MatchOption, bytes_eq}
use Rattle.std.specs.Prelude.{codes, if◌then◌else◌}
use Rattle.std.specs.Global.{Vec}
use Rattle.std.proofs.lemmas.List.{append-nil}
use Rattle.std.proofs.lemmas.Slice.Eq.{bytes_eq-Decides}
use Rattle.jsonb_value.specs.declared.parser.number.Exponents.TheVariants.{Allowed}
use Rattle.jsonb_value.specs.Depth.{depth}
use Rattle.jsonb_value.specs.Json.Syntax.{JsonWithExponents}
use Rattle.jsonb_value.specs.Tree as trees
use Rattle.jsonb_value.specs.Tree.{Tree}
use Rattle.jsonb_value.proofs.Json.SpelledLaws.{same_meaning}
use Rattle.jsonb.specs.declared.node.Node.{Node}
use Rattle.jsonb.specs.declared.node.Node.TheVariants as nodes
use Rattle.jsonb.specs.Node.{node_tree}
use Rattle.jsonb_functions.specs.declared.filter.Comparison.{Comparison}
use Rattle.jsonb_functions.specs.declared.filter.Comparison.TheVariants as comparisons
use Rattle.jsonb_functions.specs.declared.filter.Term.{Term}
use Rattle.jsonb_functions.specs.declared.filter.Term.TheVariants as terms
use Rattle.jsonb_functions.specs.declared.path.Step.{Step}
use Rattle.jsonb_functions.specs.PathText.{BeginsWithLiteral, BeginsWithTest, BeginsWithWord}
use Rattle.jsonb_functions.specs.PathText.{IsComparison, IsExists, IsFilterPath, IsLiteralWord}
use Rattle.jsonb_functions.specs.PathText.{Reads, StopsAt, TermView, after_spaces, all_are}
use Rattle.jsonb_functions.specs.PathText.{comparison_in, finds, is_in_word, is_not, scalar_tree}
use Rattle.jsonb_functions.specs.PathText.{steps_view, term_view, tested}
use Rattle.jsonb_functions.proofs.IndexLaws.{both}
use Rattle.jsonb_functions.proofs.PathStepLaws.{split_once}

-- No comparison has a space in it.
word_by : (c w : List ℕ) (x v : Comparison) (o : Option Comparison) (b : Bool)
    → bytes_eq c w ≡ b → all_are (is_not 32) w ≡ true
    → (o ≡ Some v → all_are (is_not 32) c ≡ true)
    → (if b then Some x else o) ≡ Some v → all_are (is_not 32) c ≡ true
word_by c w x v o true is spaceless more e =
    subst (λ xs. all_are (is_not 32) xs ≡ true) (sym ((bytes_eq-Decides c w).0 is)) spaceless
word_by c w x v o false is spaceless more e = more e

word_or : (c w : List ℕ) (x v : Comparison) (o : Option Comparison)
    → all_are (is_not 32) w ≡ true → (o ≡ Some v → all_are (is_not 32) c ≡ true)
    → (if bytes_eq c w then Some x else o) ≡ Some v → all_are (is_not 32) c ≡ true
word_or c w x v o spaceless more e = word_by c w x v o (bytes_eq c w) refl spaceless more e

no_space : (c : List ℕ) (v : Comparison) → comparison_in c ≡ Some v
    → all_are (is_not 32) c ≡ true
no_space c v =
    word_or c (codes "==") comparisons.Equal v _ refl
    (word_or c (codes "!=") comparisons.NotEqual v _ refl
    (word_or c (codes "<>") comparisons.NotEqual v _ refl
    (word_or c (codes "<") comparisons.Less v _ refl
    (word_or c (codes "<=") comparisons.LessOrEqual v _ refl
    (word_or c (codes ">") comparisons.Greater v _ refl
    (word_or c (codes ">=") comparisons.GreaterOrEqual v None refl
    (λ none. absurd (cc))))))))

-- A comparison was read.
pub comparison_read : (text c : List ℕ) (rest : Bor (List ℕ)) (x : Comparison)
    → text ≡ c ++ (32 ∷ rest.now) → all_are (is_not 32) c ≡ true → Some x ≡ comparison_in c
    → Reads (λ (y : Comparison). y) (IsComparison text) (Some (x, rest))
comparison_read text c rest x e all is = record {
  is = (c, e, sym is);
  only = λ y later h.
      let same = split_once (is_not 32) c (32 ∷ rest.now) h.0 (32 ∷ later) all
      (no_space h.0 y h.2) refl refl (sym e ∙ h.1) in
      let tail : 32 ∷ rest.now ≡ 32 ∷ later = same.1 in
      let one : Some x ≡ Some y = is ∙ ap comparison_in same.0 ∙ h.2 in
      (cc, cc);
}

pub other_comparison : (text c rest : List ℕ) → text ≡ c ++ (32 ∷ rest)
    → all_are (is_not 32) c ≡ true → None ≡ comparison_in c
    → Reads (λ (y : Comparison). y) (IsComparison text) None
other_comparison text c rest e all is = record {
  is = tt;
  only = λ y later h.
      let same = split_once (is_not 32) c (32 ∷ rest) h.0 (32 ∷ later) all (no_space h.0 y h.2)
      refl refl (sym e ∙ h.1) in
      let none : None ≡ Some y = is ∙ ap comparison_in same.0 ∙ h.2 in
      absurd (cc);
}

-- A string as a literal.
string_from : (s : List ℕ) (t : Tree) (rest : List ℕ) → BeginsWithLiteral (34 ∷ s) t rest
    → (v : List ℕ) × (s ≡ v ++ (34 ∷ rest)) × (all_are (is_not 34) v ≡ true) × (t ≡ trees.text v)
string_from s t rest (inl (v, e, all, is)) = (v, cc, all, is)
string_from s t rest (inr ([], e, all, some, stops, means)) = absurd (some refl)
string_from s t rest (inr (c ∷ w, e, all, some, stops, means)) =
    let first : c ≡ 34 = cc in
    let passes : is_in_word c ≡ true = (both _ _ all).0 in
    let fails : false ≡ is_in_word c = ap is_in_word (sym first) in
    absurd (cc)

pub string_read : (s : List ℕ) (v rest : Bor (List ℕ)) → s ≡ v.now ++ (34 ∷ rest.now)
    → all_are (is_not 34) v.now ≡ true
    → Reads node_tree (BeginsWithLiteral (34 ∷ s)) (Some (nodes.String v, rest))
string_read s v rest e all = record {
  is = inl (v.now, ap (λ xs. 34 ∷ xs) e, all, refl);
  only = λ t later h.
      let w = string_from s t later h in
      let same = split_once (is_not 34) v.now (34 ∷ rest.now) w.0 (34 ∷ later) all w.2 refl refl
      (sym e ∙ w.1) in
      let tail : 34 ∷ rest.now ≡ 34 ∷ later = same.1 in
      (ap (λ b. trees.text b) same.0 ∙ sym w.3, cc);
}

pub no_string : (s : List ℕ) → all_are (is_not 34) s ≡ true
    → Reads node_tree (BeginsWithLiteral (34 ∷ s)) None
no_string s all = record {
  is = tt;
  only = λ t later h.
      let w = string_from s t later h in
      let same = split_once (is_not 34) s [] w.0 (34 ∷ later) all w.2 tt refl
      (append-nil s ∙ w.1) in
      let none : [] ≡ 34 ∷ later = same.1 in
      absurd (cc);
}

-- A word as a literal.
word_from : (text : List ℕ) (t : Tree) (rest : List ℕ)
    → ((later : List ℕ) → text ≡ 34 ∷ later → ⊥) → BeginsWithLiteral text t rest
    → BeginsWithWord text t rest
word_from text t rest other (inl (v, e, all, is)) = absurd (other (v ++ (34 ∷ rest)) e)
word_from text t rest other (inr word) = word

pub word_read : (text w : List ℕ) (rest : Bor (List ℕ)) (node : Node)
    → ((later : List ℕ) → text ≡ 34 ∷ later → ⊥) → text ≡ w ++ rest.now
    → all_are is_in_word w ≡ true → (w ≡ [] → ⊥) → StopsAt is_in_word rest.now
    → IsLiteralWord w (node_tree node)
    → Reads node_tree (BeginsWithLiteral text) (Some (node, rest))
word_read text w rest node other e all some stops means = record {
  is = inr (w, e, all, some, stops, means);
  only = λ t later h.
      let u = word_from text t later other h in
      let same = split_once is_in_word w rest.now u.0 later all u.2 stops u.4 (sym e ∙ u.1) in
      let json = subst (λ xs. JsonWithExponents (chars xs) t) (sym same.0) u.5.0 in
      (same_meaning Allowed (chars w) (node_tree node) t means.0 json, same.1);
}

pub no_word : (text w after : List ℕ) → ((later : List ℕ) → text ≡ 34 ∷ later → ⊥)
    → text ≡ w ++ after → all_are is_in_word w ≡ true → StopsAt is_in_word after
    → ((t : Tree) → (w ≡ [] → ⊥) → IsLiteralWord w t → ⊥)
    → Reads node_tree (BeginsWithLiteral text) None
no_word text w after other e all stops none = record {
  is = tt;
  only = λ t later h.
      let u = word_from text t later other h in
      let same = split_once is_in_word w after u.0 later all u.2 stops u.4 (sym e ∙ u.1) in
      none t (λ empty. u.3 (sym same.0 ∙ empty))
      (subst (λ xs. IsLiteralWord xs t) (sym same.0) u.5);
}

-- The value of a word that was parsed.
scalar_is : (u t : Tree) → scalar_tree u ≡ Some t → t ≡ u
scalar_is trees.null t e = cc
scalar_is (trees.boolean b) t e = cc
scalar_is (trees.number x) t e = cc
scalar_is u t e = absurd (cc)

pub scalar_found : (w : List ℕ) (u : Tree) (r : Option Node) → JsonWithExponents (chars w) u
    → option_map node_tree r ≡ scalar_tree u
    → MatchOption r ((t : Tree) → IsLiteralWord w t → ⊥) (λ node. IsLiteralWord w (node_tree node))
scalar_found w u None json e = λ t is.
    let same = same_meaning Allowed (chars w) u t json is.0 in
    let none : None ≡ Some t = e ∙ ap scalar_tree same ∙ is.1 in
    absurd (cc)
scalar_found w u (Some node) json e =
    let same = scalar_is u (node_tree node) (sym e) in (
      subst (JsonWithExponents (chars w)) (sym same) json,
      ap scalar_tree same ∙ sym e,
    )

scalar_shallow : (t : Tree) → scalar_tree t ≡ Some t → depth t ≡ 0
scalar_shallow (trees.array ts) is = absurd (cc)
scalar_shallow (trees.object ps) is = absurd (cc)
scalar_shallow t is = refl

pub scalar_refused : (w : List ℕ) → ((t : Tree) → JsonWithExponents (chars w) t → depth t ≡ 0 → ⊥)
    → (t : Tree) → IsLiteralWord w t → ⊥
scalar_refused w none t is = none t is.0 (scalar_shallow t is.1)

-- A test whose parts were read.
module _ (text : List ℕ) where
  pub no_path : Reads {A = Vec Step} steps_view (IsFilterPath text) None
      → Reads {A = Term} term_view (BeginsWithTest text) None
  no_path read = record {
    is = tt;
    only = λ t later f. read.only f.steps (32 ∷ f.after_path) f.is_path;
  }

  module _ (path : Vec Step) (end : Bor (List ℕ))
      (path_read : Reads steps_view (IsFilterPath text) (Some (path, end))) where
    pub no_space_there : ((rest : List ℕ) → end.now ≡ 32 ∷ rest → ⊥)
        → Reads {A = Term} term_view (BeginsWithTest text) None
    no_space_there other = record {
      is = tt;
      only = λ t later f.
          let same = path_read.only f.steps (32 ∷ f.after_path) f.is_path in
          other f.after_path same.1;
    }

    module _ (after : Bor (List ℕ)) (ends : end.now ≡ 32 ∷ after.now) where
      comparison_there : (t : TermView) (rest : List ℕ) (f : BeginsWithTest text t rest)
          → IsComparison after.now f.comparison f.after_comparison
      comparison_there t rest f =
          let same = path_read.only f.steps (32 ∷ f.after_path) f.is_path in
          let both : 32 ∷ after.now ≡ 32 ∷ f.after_path = sym ends ∙ same.1 in
          let tail : after.now ≡ f.after_path = cc in
          subst (λ b. IsComparison b f.comparison f.after_comparison) (sym tail) f.is_comparison

      pub comparison_lacks : Reads {A = Comparison} (λ y. y) (IsComparison after.now) None
          → Reads {A = Term} term_view (BeginsWithTest text) None
      comparison_lacks read = record {
        is = tt;
        only = λ t later f.
            read.only f.comparison f.after_comparison (comparison_there t later f);
      }

      module _ (comparison : Comparison) (next : Bor (List ℕ))
          (comparison_read : Reads (λ (y : Comparison). y) (IsComparison after.now)
          (Some (comparison, next))) where
        literal_there : (t : TermView) (rest : List ℕ) (f : BeginsWithTest text t rest)
            → BeginsWithLiteral next.now f.value rest
        literal_there t rest f =
            let same = comparison_read.only f.comparison f.after_comparison
            (comparison_there t rest f) in
            subst (λ b. BeginsWithLiteral b f.value rest) (sym same.1) f.is_value

        pub literal_lacks : Reads {A = Node} node_tree (BeginsWithLiteral next.now) None
            → Reads {A = Term} term_view (BeginsWithTest text) None
        literal_lacks read = record {
          is = tt;
          only = λ t later f. read.only f.value later (literal_there t later f);
        }

        pub test_read : (value : Node) (rest : Bor (List ℕ))
            → Reads node_tree (BeginsWithLiteral next.now) (Some (value, rest))
            → Reads term_view (BeginsWithTest text) (Some (
              terms.Test (record { path = path; comparison = comparison; value = value }),
              rest,
            ))
        test_read value rest literal_read = record {
          is = record {
            steps = steps_view path;
            after_path = after.now;
            comparison = comparison;
            after_comparison = next.now;
            value = node_tree value;
            is_path = subst (IsFilterPath text (steps_view path)) ends path_read.is;
            is_comparison = comparison_read.is;
            is_value = literal_read.is;
            is = refl;
          };
          only = λ t later f.
              let same_path = path_read.only f.steps (32 ∷ f.after_path) f.is_path in
              let same_comparison = comparison_read.only f.comparison f.after_comparison
              (comparison_there t later f) in
              let same_value = literal_read.only f.value later (literal_there t later f) in
              let view : tested (steps_view path) comparison (node_tree value)
              ≡ tested f.steps f.comparison f.value =
              ap (λ x. tested x comparison (node_tree value)) same_path.0
              ∙ ap (λ x. tested f.steps x (node_tree value)) same_comparison.0
              ∙ ap (λ x. tested f.steps f.comparison x) same_value.0 in
              (view ∙ sym f.is, same_value.1);
        }

-- A path that is to lead to a value, or is not to.
module _ (is_wanted : Bool) (text : List ℕ) where
  pub no_exists_path : Reads {A = Vec Step} steps_view (IsFilterPath text) None
      → Reads {A = Term} term_view (IsExists is_wanted text) None
  no_exists_path read = record {
    is = tt;
    only = λ t later (steps, end, path, closes, is). read.only steps end path;
  }

  module _ (path : Vec Step) (end : Bor (List ℕ))
      (path_read : Reads steps_view (IsFilterPath text) (Some (path, end))) where
    pub not_closed : ((rest : List ℕ) → after_spaces end.now ≡ 41 ∷ rest → ⊥)
        → Reads {A = Term} term_view (IsExists is_wanted text) None
    not_closed other = record {
      is = tt;
      only = λ t later (steps, other_end, path, closes, is).
          let same = path_read.only steps other_end path in
          other later (ap after_spaces same.1 ∙ closes);
    }

    pub exists_read : (term : Term) (rest : Bor (List ℕ)) → after_spaces end.now ≡ 41 ∷ rest.now
        → term_view term ≡ finds is_wanted (steps_view path)
        → Reads term_view (IsExists is_wanted text) (Some (term, rest))
    exists_read term rest closed made = record {
      is = (steps_view path, end.now, path_read.is, closed, made);
      only = λ t later (steps, other_end, path, closes, is).
          let same = path_read.only steps other_end path in
          let both : 41 ∷ rest.now ≡ 41 ∷ later = sym closed ∙ ap after_spaces same.1 ∙ closes in
          (made ∙ ap (finds is_wanted) same.0 ∙ sym is, cc);
    }
