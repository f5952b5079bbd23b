use Rattle.std.proofs.Common.{◌≡◌, ◌≤◌, length, refl, sym, ◌∙◌, ap, subst, arith}
use Rattle.do_parse.proofs.Cutting.{cut_none, cut_fault, cut_more, slices_on}
use Rattle.do_parse.proofs.cut.cut.Goals as goal

pub reading-preserved : goal.reading-preserved
reading-preserved c =
    let i = c.reading.invariant in
    let e = c.in-Ok-Some.ensures in
    let behind = rw c.in-Ok-Some.field-0-is at e.behind in
    let inside = rw c.in-Ok-Some.field-0-is at e.within in
    let exact = rw c.in-Ok-Some.field-0-is at e.exact in
    let slice = rw c.in-Ok-Some.field-0-is at e.slice in
    record {
      text_is = e.text ∙ i.text_is;
      within = subst (λ n. n ≤ length c.args.text.now) (sym behind) (subst (λ xs. c.in-Ok-Some.token.end ≤ length xs) i.text_is inside);
      cut = cut_more c.args.text.now c.reading.reader.text c.reading.reader.at c.next.new.self.at c.reading.tokens.items c.push.new.self.items c.in-Ok-Some.token i.text_is c.in_ok-push-in-Ok-Some.ensures.items behind i.cut exact;
      slices = slices_on c.args.text.now c.reading.reader.text c.reading.tokens.items c.push.new.self.items c.in-Ok-Some.token i.text_is c.in_ok-push-in-Ok-Some.ensures.items i.slices slice;
    }

pub returns-in-Ok-None-clause-lexed : goal.returns-in-Ok-None-clause-lexed
returns-in-Ok-None-clause-lexed c =
    let i = c.reading.invariant in
    cut_none c.args.text.now c.reading.reader.text c.reading.reader.at c.reading.tokens.items i.text_is i.cut i.slices (rw c.in-Ok-None.field-0-is at c.in-Ok-None.ensures.exact)

pub returns-in-Err-clause-lexed : goal.returns-in-Err-clause-lexed
returns-in-Err-clause-lexed c =
    let i = c.reading.invariant in
    cut_fault c.args.text.now c.reading.reader.text c.reading.reader.at c.reading.tokens.items c.in-Err.fault i.text_is i.cut i.slices c.in-Err.ensures.exact
