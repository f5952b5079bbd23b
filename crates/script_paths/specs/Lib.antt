-- What a path goes on with; reading what a part needs: the variables, and the fields of the object itself; what places have and
-- paths begin with.
pub mod Ahead
pub mod Onward
pub mod Reading
pub mod Standing
pub mod Bases
pub mod Pushed
