mod HaveCode
