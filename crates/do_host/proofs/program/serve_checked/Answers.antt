use Rattle.do_host.proofs.program.serve_checked.Goals as goal

pub returns : goal.returns
returns g c =
    let e = c.serve-end.ensures in
    record {
      end = c.serve-end.result.end;
      served = c.serve-end.result.out;
      tells = c.end_served.ensures.tells;
      reports = rw c.settings_of-settings.ensures at e.report;
      lines = rw c.end_served.ensures.input e.lines;
      output = e.output;
      opened = rw c.end_served.ensures.input (rw c.settings_of-settings.ensures at e.opened);
      unopened = rw c.settings_of-settings.ensures at e.unopened;
      causes = rw c.end_served.ensures.input e.causes;
      asked = rw c.settings_of-settings.ensures at e.asked;
    }
