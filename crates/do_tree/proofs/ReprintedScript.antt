-- A whole script is read again from its printed tokens, with the same tree but for places.
use Rattle.std.proofs.Common.{◌≡◌, ℕ, zero, List, [], ◌∷◌, ◌++◌, map, Option, Some, None, refl, sym, ◌∙◌, ap, append_assoc}
use Rattle.std.specs.Prelude.{codes}
use Rattle.std.proofs.lemmas.List.{append-nil}
use Rattle.do_lex.specs.declared.kind.Keyword.TheVariants as key
use Rattle.do_lex.specs.declared.kind.Mark.TheVariants as mark
use Rattle.do_tree.specs.Grammar.{TakesMark, TakesName, AreNames, TakesCtxEnv, IsMember, AreMembers, IsClass, AreClasses, IsImport, IsScript}
use Rattle.do_tree.specs.Grammar.{AreNames as names}
use Rattle.do_tree.specs.Grammar.{TakesCtxEnv as ctx}
use Rattle.do_tree.specs.Grammar.{IsMember as member}
use Rattle.do_tree.specs.Grammar.{AreMembers as members}
use Rattle.do_tree.specs.Grammar.{IsClass as one_class}
use Rattle.do_tree.specs.Grammar.{AreClasses as classes}
use Rattle.do_tree.specs.Grammar.{IsImport as imports}
use Rattle.do_tree.specs.Lexeme.{Lexeme, place}
use Rattle.do_tree.specs.Print.{a_mark, tokens_of_class, tokens_of_classes, tokens_of_ctx_env, tokens_of_head, tokens_of_import, tokens_of_items, tokens_of_method, tokens_of_methods, tokens_of_names, tokens_of_script}
use Rattle.do_tree.specs.Tree.{Named, Method, Class, Script}
use Rattle.do_tree.specs.Unplaced.{SameButPlaces, unplaced_class, unplaced_import, unplaced_method, unplaced_name, unplaced_names}
use Rattle.do_tree.specs.declared.script.MethodKind.TheVariants as method
use Rattle.do_tree.proofs.Firsts.{brace_no_else}
use Rattle.do_tree.proofs.Respelled.{Bare, Front, key_front, mark_front, name_front, named_at, pieces, placed, takes_key, takes_mark, takes_name, takes_word, text_front, word_front}
use Rattle.do_tree.proofs.Respelled.{Respelled as respelled}
use Rattle.do_tree.proofs.Reprinted.{again_block, again_items}
use Rattle.do_tree.proofs.Rereading.{Again}
use Rattle.do_tree.proofs.Spelled.{takes_text}

-- names before one or more
names_more : {ts us vs ws : List Lexeme} {n : Named} (ms : List Named) {y : Named} {ys : List Named} → unplaced_names ms ≡ y ∷ ys
    → TakesName n zero ts us → TakesMark mark.Comma zero us vs → AreNames vs ws ms → AreNames ts ws (n ∷ ms)
names_more [] h t c r = cc
names_more (m ∷ ms) h t c r = names.more t c r

again_names : (spot : List Bare → ℕ) {ts us : List Lexeme} {x : List Named} → AreNames ts us x → (f : Front us)
    → Again spot AreNames unplaced_names tokens_of_names ts f.bares x
again_names spot names.none f = record { front = f; again = []; is = names.none; same = refl; are = refl }
again_names spot (names.last {n = n} t) f =
    let f1 = name_front t f in
    record { front = f1; again = named_at spot f1.bares n.text ∷ []; is = names.last (takes_name spot n.text zero f.bares); same = refl; are = refl }
again_names spot (names.more {n = n} t c r) f =
    let a = again_names spot r f in
    let f2 = mark_front c a.front refl in
    let f1 = name_front t f2 in
    record {
      front = f1;
      again = named_at spot f1.bares n.text ∷ a.again;
      is = names_more a.again a.same (takes_name spot n.text zero f2.bares) (takes_mark spot mark.Comma zero a.front.bares) a.is;
      same = λ i. unplaced_name n ∷ a.same i;
      are = simp a.are;
    }

again_ctx_env : (spot : List Bare → ℕ) {ts us : List Lexeme} {x : List Named} → TakesCtxEnv ts us x → (f : Front us)
    → Again spot TakesCtxEnv unplaced_names (λ _. tokens_of_ctx_env) ts f.bares x
again_ctx_env spot (ctx.ctx_env {c = c} {e = e} ct et p1 p2 p3 p4 p5) f =
    let f5 = mark_front p5 f refl in
    let f4 = name_front p4 f5 in
    let f3 = mark_front p3 f4 refl in
    let f2 = name_front p2 f3 in
    let f1 = mark_front p1 f2 refl in
    record {
      front = f1;
      again = named_at spot f2.bares c.text ∷ named_at spot f4.bares e.text ∷ [];
      is = ctx.ctx_env ct et (takes_mark spot mark.OpenParen zero f2.bares) (takes_name spot c.text zero f3.bares) (takes_mark spot mark.Comma zero f4.bares)
          (takes_name spot e.text zero f5.bares) (takes_mark spot mark.CloseParen zero f.bares);
      same = refl;
      are = simp (ct, et);
    }

again_member : (spot : List Bare → ℕ) {ts us : List Lexeme} {x : Method} → IsMember ts us x → (f : Front us)
    → Again spot IsMember unplaced_method tokens_of_method ts f.bares x
again_member spot (member.constructor {m = m} at kind_is name_at name_is p1 p2 p3 p4 p5 p6 rest p7 p8) f =
    let f8 = mark_front p8 f refl in
    let a7 = again_items spot p7 f8 brace_no_else in
    let f6 = mark_front p6 a7.front refl in
    let a5 = again_ctx_env spot p5 f6 in
    let f4 = key_front p4 a5.front in
    let f3 = mark_front p3 f4 refl in
    let a2 = again_ctx_env spot p2 f3 in
    let f1 = key_front p1 a2.front in
    let at_first = place (placed spot f1.bares) in
    let k = sym kind_is in
    let n = sym name_is in
    let e : pieces f1.bares ≡ (tokens_of_head method.Constructor m ++ (tokens_of_items m.body ++ a_mark mark.CloseBrace ∷ [])) ++ pieces f.bares =
    simp (a2.are, a5.are, a7.are, append_assoc) in
    record {
      front = f1;
      again = record { at = at_first; kind = method.Constructor; name = record { at = at_first; text = codes "constructor" }; parameters = a2.again; body = a7.again };
      is = member.constructor refl refl refl refl (takes_key spot key.Constructor zero a2.front.bares) a2.is (takes_mark spot mark.OpenBrace zero f4.bares)
          (takes_key spot key.Super zero a5.front.bares) a5.is (takes_mark spot mark.Semicolon zero a7.front.bares) (placed spot f8.bares) a7.is
          (takes_mark spot mark.CloseBrace zero f.bares);
      same = λ i. record { at = 0; kind = k i; name = record { at = 0; text = n i }; parameters = a2.same i; body = a7.same i };
      are = e ∙ ap (λ q. (tokens_of_head q m ++ (tokens_of_items m.body ++ a_mark mark.CloseBrace ∷ [])) ++ pieces f.bares) k;
    }
again_member spot (member.sync {m = m} at kind_is p1 p2 p3 p4 p5) f =
    let a5 = again_block spot p5 f in
    let f4 = mark_front p4 a5.front refl in
    let a3 = again_names spot p3 f4 in
    let f2 = mark_front p2 a3.front refl in
    let f1 = name_front p1 f2 in
    let k = sym kind_is in
    let e : pieces f1.bares ≡ (tokens_of_head method.Sync m ++ (tokens_of_items m.body ++ a_mark mark.CloseBrace ∷ [])) ++ pieces f.bares =
    simp (a3.are, a5.are, append_assoc) in
    record {
      front = f1;
      again = record { at = place (placed spot f1.bares); kind = method.Sync; name = named_at spot f1.bares m.name.text; parameters = a3.again; body = a5.again };
      is = member.sync refl refl (takes_name spot m.name.text zero f2.bares) (takes_mark spot mark.OpenParen zero a3.front.bares) a3.is
          (takes_mark spot mark.CloseParen zero a5.front.bares) a5.is;
      same = λ i. record { at = 0; kind = k i; name = unplaced_name m.name; parameters = a3.same i; body = a5.same i };
      are = e ∙ ap (λ q. (tokens_of_head q m ++ (tokens_of_items m.body ++ a_mark mark.CloseBrace ∷ [])) ++ pieces f.bares) k;
    }
again_member spot (member.async {m = m} at kind_is p0 p1 p2 p3 p4 p5) f =
    let a5 = again_block spot p5 f in
    let f4 = mark_front p4 a5.front refl in
    let a3 = again_names spot p3 f4 in
    let f2 = mark_front p2 a3.front refl in
    let f1 = name_front p1 f2 in
    let f0 = key_front p0 f1 in
    let k = sym kind_is in
    let e : pieces f0.bares ≡ (tokens_of_head method.Async m ++ (tokens_of_items m.body ++ a_mark mark.CloseBrace ∷ [])) ++ pieces f.bares =
    simp (a3.are, a5.are, append_assoc) in
    record {
      front = f0;
      again = record { at = place (placed spot f0.bares); kind = method.Async; name = named_at spot f1.bares m.name.text; parameters = a3.again; body = a5.again };
      is = member.async refl refl (takes_key spot key.Async zero f1.bares) (takes_name spot m.name.text zero f2.bares) (takes_mark spot mark.OpenParen zero a3.front.bares) a3.is
          (takes_mark spot mark.CloseParen zero a5.front.bares) a5.is;
      same = λ i. record { at = 0; kind = k i; name = unplaced_name m.name; parameters = a3.same i; body = a5.same i };
      are = e ∙ ap (λ q. (tokens_of_head q m ++ (tokens_of_items m.body ++ a_mark mark.CloseBrace ∷ [])) ++ pieces f.bares) k;
    }

again_members : (spot : List Bare → ℕ) {ts us : List Lexeme} {x : List Method} → AreMembers ts us x → (f : Front us)
    → Again spot AreMembers (map unplaced_method) tokens_of_methods ts f.bares x
again_members spot members.none f = record { front = f; again = []; is = members.none; same = refl; are = refl }
again_members spot (members.more p q) f =
    let b = again_members spot q f in
    let a = again_member spot p b.front in
    record { front = a.front; again = a.again ∷ b.again; is = members.more a.is b.is; same = λ i. a.same i ∷ b.same i; are = simp (a.are, b.are, append_assoc) }

again_class : (spot : List Bare → ℕ) {ts us : List Lexeme} {x : Class} → IsClass ts us x → (f : Front us)
    → Again spot IsClass unplaced_class tokens_of_class ts f.bares x
again_class spot (one_class.class {c = c} at p1 p2 p3 p4 p5 p6 rest p7 p8) f =
    let f8 = mark_front p8 f refl in
    let a7 = again_members spot p7 f8 in
    let f6 = mark_front p6 a7.front refl in
    let f5 = word_front p5 f6 in
    let f4 = key_front p4 f5 in
    let f3 = name_front p3 f4 in
    let f2 = key_front p2 f3 in
    let f1 = key_front p1 f2 in
    record {
      front = f1;
      again = record { at = place (placed spot f1.bares); name = named_at spot f3.bares c.name.text; methods = a7.again };
      is = one_class.class refl (takes_key spot key.Export zero f2.bares) (takes_key spot key.Class zero f3.bares) (takes_name spot c.name.text zero f4.bares)
          (takes_key spot key.Extends zero f5.bares) (takes_word spot (codes "DurableObject") zero f6.bares) (takes_mark spot mark.OpenBrace zero a7.front.bares)
          (placed spot f8.bares) a7.is (takes_mark spot mark.CloseBrace zero f.bares);
      same = λ i. record { at = 0; name = unplaced_name c.name; methods = a7.same i };
      are = simp (a7.are, append_assoc);
    }

-- classes before one or more
classes_more : {ts us vs : List Lexeme} {c : Class} (ds : List Class) {y : Class} {ys : List Class} → map unplaced_class ds ≡ y ∷ ys
    → IsClass ts us c → AreClasses us vs ds → AreClasses ts vs (c ∷ ds)
classes_more [] h p q = cc
classes_more (d ∷ ds) h p q = classes.more p q

again_classes : (spot : List Bare → ℕ) {ts us : List Lexeme} {x : List Class} → AreClasses ts us x → (f : Front us)
    → Again spot AreClasses (map unplaced_class) tokens_of_classes ts f.bares x
again_classes spot (classes.last {c = c} p) f =
    let a = again_class spot p f in
    record { front = a.front; again = a.again ∷ []; is = classes.last a.is; same = λ i. a.same i ∷ []; are = a.are ∙ ap (λ ps. ps ++ pieces f.bares) (sym (append-nil (tokens_of_class c))) }
again_classes spot (classes.more p q) f =
    let b = again_classes spot q f in
    let a = again_class spot p b.front in
    record { front = a.front; again = a.again ∷ b.again; is = classes_more b.again b.same a.is b.is; same = λ i. a.same i ∷ b.same i; are = simp (a.are, b.are, append_assoc) }

again_import : (spot : List Bare → ℕ) {ts us : List Lexeme} {x : Option ℕ} → IsImport ts us x → (f : Front us)
    → Again spot IsImport unplaced_import tokens_of_import ts f.bares x
again_import spot imports.none f = record { front = f; again = None; is = imports.none; same = refl; are = refl }
again_import spot (imports.import at p1 p2 p3 p4 p5 p6 p7) f =
    let f7 = mark_front p7 f refl in
    let f6 = text_front p6 f7 in
    let f5 = word_front p5 f6 in
    let f4 = mark_front p4 f5 refl in
    let f3 = word_front p3 f4 in
    let f2 = mark_front p2 f3 refl in
    let f1 = key_front p1 f2 in
    record {
      front = f1;
      again = Some (place (placed spot f1.bares));
      is = imports.import refl (takes_key spot key.Import zero f2.bares) (takes_mark spot mark.OpenBrace zero f3.bares) (takes_word spot (codes "DurableObject") zero f4.bares)
          (takes_mark spot mark.CloseBrace zero f5.bares) (takes_word spot (codes "from") zero f6.bares) (takes_text spot (codes "cloudflare:workers") zero f7.bares)
          (takes_mark spot mark.Semicolon zero f.bares);
      same = refl;
      are = refl;
    }

-- A script, read again.
pub record AgainScript (spot : List Bare → ℕ) (ts : List Lexeme) (x : Script) : Type 0 where
  pub front : Front ts
  pub again : Script
  pub is : IsScript (placed spot front.bares) again
  pub same : SameButPlaces again x
  pub are : pieces front.bares ≡ tokens_of_script x

pub again_script : (spot : List Bare → ℕ) (ts : List Lexeme) (x : Script) → IsScript ts x → AgainScript spot ts x
again_script spot ts x p =
    let last : Front [] = record { bares = []; like = respelled.none } in
    let b = again_classes spot p.classes last in
    let a = again_import spot p.import b.front in
    record {
      front = a.front;
      again = record { import = a.again; classes = b.again };
      is = record { rest = placed spot b.front.bares; import = a.is; classes = b.is };
      same = λ i. record { import = a.same i; classes = b.same i };
      are = simp (a.are, b.are, append-nil);
    }
